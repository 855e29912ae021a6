-- For inner functions; no public promise rests on it. What stands at a cursor of a description. Assumes nothing.
use Rattle.std.specs.Prelude.{ℕ, ◌+◌, ◌-◌, ◌*◌, ◌≤◌, ◌<◌, ◌≡◌, cond, ◌&&◌, List, [], ◌∷◌, ◌++◌, ltb, eqb, length, get_or, Option, None, Some}
use Rattle.std.proofs.Math.Seq.{slice}
use Rattle.types.specs.declared.ColumnDescriptor.{ColumnDescriptor}
use Rattle.column.specs.declared.EnvEntry.{EnvEntry}
use Rattle.column.specs.Column.{sda_column}
use Rattle.column.specs.Group.{no_entry, lid_column}
use Rattle.triplets.specs.declared.Triplet.{Triplet as Placed}
use Rattle.triplets.specs.declared.Cursor.{Cursor}
use Rattle.triplets.specs.declared.Cursor.TheVariants as cursor
use Rattle.triplets.specs.declared.Source.{Source}
use Rattle.triplets.specs.declared.Source.TheVariants as source
use Rattle.triplets.specs.declared.Step.{Step}
use Rattle.triplets.specs.declared.Step.TheVariants as step
use Rattle.triplets.specs.declared.Reached.{Reached}
use Rattle.triplets.specs.declared.Reached.TheVariants as reached
use Rattle.triplets.specs.Triplets.{Triplet, begins, reading}
use Rattle.triplets.specs.Descriptors.{Environment, declare, lid_columns, inner_columns, columns_from}

-- a triplet by its type byte and the place where it ends
abbrev pub placed : ℕ → ℕ → Placed
placed k e = record { kind = k; end = e }

-- the triplet that begins s, where s begins at a place
unfoldable pub next_of : ℕ → List ℕ → ℕ → Option Placed
next_of least s at = cond (begins least s) (Some (placed (get_or s 1 0) (at + get_or s 0 0))) None

-- where a group begins whose data goes from a to e
unfoldable pub group_at : List ℕ → ℕ → ℕ → Cursor
group_at s a e = cond (ltb a e && eqb (get_or s a 0) 0xD0) (cursor.Lids (a + 1) e) (cursor.Inner a e)

-- the outer triplets from a place on
abbrev pub outer_from : List ℕ → ℕ → List Triplet
outer_from s at = (reading 2 (slice at (length s) s)).triplets

-- where the outer triplets from a place on end: the first byte that they leave unread, or the end
unfoldable pub end_from : List ℕ → ℕ → ℕ
end_from s at = length s - length (reading 2 (slice at (length s) s)).unread

-- the place from which outer triplets are to come
abbrev pub outer_at : Cursor → ℕ
outer_at (cursor.Outer p at) = at
outer_at (cursor.Lids at e) = e
outer_at (cursor.Inner at e) = e

-- the columns that are still to come
unfoldable pub to_come : List ℕ → Environment → Cursor → List ColumnDescriptor
to_come s env (cursor.Outer p at) = columns_from p env (outer_from s at)
to_come s env (cursor.Lids at e) = lid_columns env (slice at e s) ++ columns_from None env (outer_from s e)
to_come s env (cursor.Inner at e) =
    inner_columns (reading 3 (slice at e s)).triplets ++ columns_from None env (outer_from s e)

abbrev pub CursorWithin : List ℕ → Cursor → Type 0
CursorWithin s (cursor.Outer p at) = at ≤ length s
CursorWithin s (cursor.Lids at e) = (at ≤ e) × (e ≤ length s)
CursorWithin s (cursor.Inner at e) = (at ≤ e) × (e ≤ length s)

-- what every step makes less: the bytes ahead, twice, and one for a group
abbrev pub ahead : List ℕ → Cursor → ℕ
ahead s (cursor.Outer p at) = 2 * (length s - at)
ahead s (cursor.Lids at e) = 2 * (length s - at) + 1
ahead s (cursor.Inner at e) = 2 * (length s - at) + 1

-- where a column is described: its first byte, whether it is there, and the column, of which e is the environment's entry
abbrev pub start_in : Source → ℕ
start_in (source.Sda a e) = a
start_in (source.Lid a) = a

abbrev pub SourceWithin : List ℕ → Source → Type 0
SourceWithin s (source.Sda a e) = (a < e) × (e ≤ length s)
SourceWithin s (source.Lid a) = a + 2 < length s

abbrev pub column_at : List ℕ → Option EnvEntry → Source → ColumnDescriptor
column_at s entry (source.Sda a e) = sda_column (slice a e s)
column_at s entry (source.Lid a) = lid_column entry (get_or s a 0) (get_or s (a + 1) 0) (get_or s (a + 2) 0)

abbrev pub column_in : List ℕ → Environment → Source → ColumnDescriptor
column_in s env f = column_at s (get_or env (get_or s (start_in f) 0) no_entry) f

-- from the cursor c to the cursor n: what was to come at c, in an environment, is now `rest`
pub record Goes (s : List ℕ) (c n : Cursor) (rest : Environment → List ColumnDescriptor) : Type 0 where
  pub within : CursorWithin s n
  pub less : ahead s n < ahead s c
  pub same : (env : Environment) → to_come s env c ≡ rest env
  pub ends : end_from s (outer_at n) ≡ end_from s (outer_at c)

-- what a step says of the columns to come, and of the place where the outer triplets end
abbrev pub Leads : List ℕ → Cursor → Step → Type 0
Leads s c (step.End at) = ((env : Environment) → to_come s env c ≡ []) × (at ≡ end_from s (outer_at c))
Leads s c (step.Skip n) = Goes s c n (λ env. to_come s env n)
Leads s c (step.Declare n e l) = (l < 256) × Goes s c n (λ env. to_come s (declare env l e) n)
Leads s c (step.Column n f) = SourceWithin s f × Goes s c n (λ env. column_in s env f ∷ to_come s env n)

-- the next column d, behind it the cursor n in the environment `after`: from the cursor c in the environment env
pub record Comes (s : List ℕ) (c : Cursor) (env : Environment) (n : Cursor) (after : Environment) (d : ColumnDescriptor) : Type 0 where
  pub within : CursorWithin s n
  pub less : ahead s n < ahead s c
  pub same : to_come s env c ≡ d ∷ to_come s after n
  pub ends : end_from s (outer_at n) ≡ end_from s (outer_at c)

-- what a reading comes to from the cursor c, in the environment env, which is then `after`
abbrev pub Reaches : List ℕ → Cursor → Environment → Environment → Reached → Type 0
Reaches s c env after (reached.End at) = (to_come s env c ≡ []) × (at ≡ end_from s (outer_at c))
Reaches s c env after (reached.Column n f e) = SourceWithin s f × Comes s c env n after (column_at s e f)
