-- D3: where all columns carry their own end, a row of two bytes or more of which at least one is used stays what it is, whatever bytes follow it. About a row call,
-- given as its answer and the text buffer after it, from columns, input and text buffer; proofs/Demand3.antt proves it of the row call. Assumes nothing.
use Rattle.std.specs.Prelude.{ℕ, ◌≤◌, ◌<◌, ◌≡◌, true, List, [], ◌∷◌, length, take, get_or}
use Rattle.refusal.specs.Refusal.{accepted, input_limit}
use Rattle.types.specs.declared.Columns.{Columns}
use Rattle.types.specs.Places.{blank_value, covered}
use Rattle.rules.specs.OwnEnd.{all_carry_own_end}
use Rattle.rules.specs.Value.{value_bytes, texts_together}
use Rattle.rules.specs.Row.{RowTold, refused_row}

-- term: D3. a is the answer to the input s and leaves the text buffer d; b that to t, and leaves e. A float that is no NaN has one pattern of bits (lib.Ieee),
-- and a NaN is held by its bits; a value place has the value and whether it is external.
pub record SameAnswer (a : RowTold) (s d : List ℕ) (b : RowTold) (t e : List ℕ) : Type 0 where
  pub outcome : a.outcome ≡ b.outcome
  pub places : a.places ≡ b.places
  pub bytes : (i : ℕ) → value_bytes (get_or a.places i blank_value).value s d ≡ value_bytes (get_or b.places i blank_value).value t e
  pub used : a.used ≡ b.used
  pub replaced : a.replaced ≡ b.replaced

-- term: D3
abbrev pub LargeEnough : RowTold → List ℕ → Type 0
LargeEnough a d = texts_together a.places ≤ length d

module _ (answer : Columns → List ℕ → List ℕ → RowTold) (after : Columns → List ℕ → List ℕ → List ℕ) where
  -- the answers to the input s with the text buffer d, and to t with e, are the same
  abbrev pub Same : Columns → List ℕ → List ℕ → List ℕ → List ℕ → Type 0
  Same columns s d t e = SameAnswer (answer columns s d) s (after columns s d) (answer columns t e) t (after columns t e)

  -- An input s of at least two bytes is accepted, with at least one byte used. (Where there are fewer, or none is used, bytes that follow can bring the skip about:
  -- case D against E, and K against an input that begins FF)
  pub record AcceptedRow (columns : Columns) (s d : List ℕ) : Type 0 where
    pub two : 2 ≤ length s
    pub accepts : (answer columns s d).outcome ≡ accepted
    pub one : 1 ≤ (answer columns s d).used

  -- every input t, within the limit of refusal 4, that begins with the n bytes used gives the same answer in every text buffer e that is large enough
  abbrev pub Longer : Columns → List ℕ → List ℕ → Type 0
  Longer columns s d =
      (t e : List ℕ) → length t ≤ input_limit → take (answer columns s d).used t ≡ take (answer columns s d).used s → LargeEnough (answer columns s d) e
      → Same columns t e s d

  -- term: D3. Every shorter beginning of at least two bytes is too short, in every text buffer, which keeps what it had
  abbrev pub Shorter : Columns → List ℕ → List ℕ → Type 0
  Shorter columns s d =
      (m : ℕ) (e : List ℕ) → 2 ≤ m → m < (answer columns s d).used
      → (expected : ℕ) × (actual : ℕ) × (answer columns (take m s) e ≡ refused_row 8 (expected ∷ actual ∷ [])) × (after columns (take m s) e ≡ e)

  -- the n bytes used, alone, give the same answer
  abbrev pub Alone : Columns → List ℕ → List ℕ → Type 0
  Alone columns s d =
      (e : List ℕ) → LargeEnough (answer columns s d) e → Same columns (take (answer columns s d).used s) e s d

  -- The first two are for columns that all carry their own end; the third is for all columns, and for every accepted input, also one of fewer than two bytes and
  -- one of which none is used
  pub record Demand3 : Type 0 where
    pub longer : (columns : Columns) → all_carry_own_end (covered columns) ≡ true → (s d : List ℕ) → AcceptedRow columns s d → Longer columns s d
    pub shorter : (columns : Columns) → all_carry_own_end (covered columns) ≡ true → (s d : List ℕ) → AcceptedRow columns s d → Shorter columns s d
    pub alone : (columns : Columns) (s d : List ℕ) → (answer columns s d).outcome ≡ accepted → Alone columns s d
