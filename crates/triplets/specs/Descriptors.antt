-- The columns that the triplets of a description describe: Q2 to Q8. Assumes nothing.
use Rattle.std.specs.Prelude.{ℕ, ◌-◌, cond, List, [], ◌∷◌, ◌++◌, eqb, length, get_or, drop, set, replicate, Option, None, Some}
use Rattle.types.specs.declared.ColumnDescriptor.{ColumnDescriptor}
use Rattle.column.specs.declared.EnvEntry.{EnvEntry}
use Rattle.column.specs.Column.{sda_column}
use Rattle.column.specs.Group.{entry_of, first_entry, no_entry, lid_column}
use Rattle.triplets.specs.Triplets.{Triplet, reading}

-- Q2: what an MDD with the data d leaves pending
unfoldable pub last_of : List ℕ → Option ℕ
last_of d = cond (eqb (length d) 0) None (Some (get_or d (length d - 1) 0))

-- Q2, Q3, Q8: what is pending after a triplet
unfoldable pub pending_after : Triplet → Option ℕ
pending_after t = cond (eqb t.kind 0x78) (last_of t.body) None

-- term: Q3. The environment: for each of the LIDs the entry that declares it, if one does
abbrev pub Environment : Type 0
Environment = List (Option EnvEntry)

-- Q3: the environment in which no LID is declared
unfoldable pub no_entries : Environment
no_entries = replicate 256 no_entry

-- an entry for the LID l
unfoldable pub declare : Environment → ℕ → EnvEntry → Environment
declare env l e = set env l (first_entry (get_or env l no_entry) (Some e))

-- Q3: the environment after a triplet
unfoldable pub environment_after : Option ℕ → Environment → Triplet → Environment
environment_after None env t = env
environment_after (Some mdd) env t =
    cond (eqb t.kind 0x70)
    (cond (eqb (length t.body) 0) env (declare env (get_or t.body 0 0) (entry_of mdd t.body)))
    env

-- Q4, Q7: the column of an SDA with the data d, if it has data
unfoldable pub sda_columns : List ℕ → List ColumnDescriptor
sda_columns d = cond (eqb (length d) 0) [] (sda_column d ∷ [])

-- Q3, Q4: an SDA that is no inner one is a column where nothing is pending
unfoldable pub outer_sda : Option ℕ → List ℕ → List ColumnDescriptor
outer_sda None d = sda_columns d
outer_sda (Some mdd) d = []

-- Q5: the columns of a D0 group, from the bytes after D0
unfoldable pub lid_columns : Environment → List ℕ → List ColumnDescriptor
lid_columns env [] = []
lid_columns env (l ∷ []) = []
lid_columns env (l ∷ a ∷ []) = []
lid_columns env (l ∷ a ∷ b ∷ d) = lid_column (get_or env l no_entry) l a b ∷ lid_columns env d

-- Q7: the columns of any other group, from its inner triplets
unfoldable pub inner_columns : List Triplet → List ColumnDescriptor
inner_columns [] = []
inner_columns (t ∷ ts) = cond (eqb t.kind 0x70) (sda_columns t.body) [] ++ inner_columns ts

unfoldable pub group_columns : Environment → List ℕ → List ColumnDescriptor
group_columns env d =
    cond (eqb (get_or d 0 0) 0xD0) (lid_columns env (drop 1 d)) (inner_columns (reading 3 d).triplets)

unfoldable pub triplet_columns : Option ℕ → Environment → Triplet → List ColumnDescriptor
triplet_columns p env t =
    cond (eqb t.kind 0x70) (outer_sda p t.body) (cond (eqb t.kind 0x76) (group_columns env t.body) [])

-- the columns of triplets, with what is pending and the environment before them
unfoldable pub columns_from : Option ℕ → Environment → List Triplet → List ColumnDescriptor
columns_from p env [] = []
columns_from p env (t ∷ ts) = triplet_columns p env t ++ columns_from (pending_after t) (environment_after p env t) ts

-- the columns of a description, not yet numbered
unfoldable pub columns_of : List ℕ → List ColumnDescriptor
columns_of s = columns_from None no_entries (reading 2 s).triplets
