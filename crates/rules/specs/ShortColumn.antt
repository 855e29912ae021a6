-- Refusal 8: which column lacks bytes, as calls with fewer columns tell. About a row call, given as its answer from columns, input and text buffer;
-- proofs/ShortColumn.antt proves it of the row call. Assumes nothing.
use Rattle.std.specs.Prelude.{ℕ, ◌≤◌, ◌<◌, ◌≡◌, List}
use Rattle.refusal.specs.Refusal.{refused}
use Rattle.types.specs.declared.Columns.{Columns}
use Rattle.rules.specs.Row.{RowTold, refused_row}

-- the first j of the columns: the same places with another count
abbrev pub first_columns : ℕ → Columns → Columns
first_columns j columns = record { columns = columns.columns; count = j }

module _ (answer : Columns → List ℕ → List ℕ → RowTold) where
  -- column k of the row s lacks bytes: the first j columns are not too short where k is not among them, and where it is they are, by the same two numbers vs; whatever
  -- the text buffers
  pub record Lacking (columns : Columns) (s vs : List ℕ) (k : ℕ) : Type 0 where
    pub covers : k < columns.count
    pub without : (j : ℕ) (e us : List ℕ) → j ≤ k → (answer (first_columns j columns) s e).outcome ≡ refused 8 us → ⊥
    pub with_it : (j : ℕ) (e : List ℕ) → k < j → j ≤ columns.count → answer (first_columns j columns) s e ≡ refused_row 8 vs

  -- of every row that is too short
  abbrev pub ShortColumn : Type 0
  ShortColumn = (columns : Columns) (s d vs : List ℕ) → (answer columns s d).outcome ≡ refused 8 vs → (k : ℕ) × Lacking columns s vs k
