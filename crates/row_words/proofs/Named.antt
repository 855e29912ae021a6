-- The columns that words name, one by one; they are the columns that the words are read as. Assumes nothing.
use Prim.Native.Nat.{ℕ, zero, suc, ◌+◌, ◌*◌, ◌/◌, ◌<◌}
use mathlib.Core.Path.{◌≡◌, refl, sym}
use mathlib.Core.Bool.{Bool, true, false, cond}
use mathlib.Core.List.{List, [], ◌∷◌}
use Rattle.std.specs.Prelude.{Option, Some, None}
use native.Mathlib.Omega.{arith}
use lib.ListN.{length, drop, get_or}
use Rattle.types.specs.declared.ColumnDescriptor.{ColumnDescriptor}
use Rattle.words.specs.Reading.{column_named, is_column, read_column, joined, read_columns}
use Rattle.row_words.specs.Passes.{columns_named}

pub named_length : (ws : List ℕ) → length (columns_named ws) ≡ length ws / 2
unfolding columns_named
named_length [] = refl
named_length (a ∷ []) = refl
named_length (a ∷ (b ∷ ws)) = let e = named_length ws in omega (arith, e)

named_here : (ws : List ℕ) (i : ℕ) → i < length ws / 2 → drop i (columns_named ws) ≡ column_named (get_or ws (2 * i) 0) (get_or ws (2 * i + 1) 0) ∷ drop (i + 1) (columns_named ws)
unfolding columns_named
named_here [] i h = absurd (omega arith)
named_here (a ∷ []) i h = absurd (omega arith)
named_here (a ∷ (b ∷ ws)) zero h = refl
named_here (a ∷ (b ∷ ws)) (suc i) h =
    let e : 2 * suc i ≡ suc (suc (2 * i)) = omega arith in
    let f : 2 * suc i + 1 ≡ suc (suc (2 * i + 1)) = omega arith in
    let g : suc i + 1 ≡ suc (i + 1) = omega arith in
    rw (f, e, g) (named_here ws i (omega arith))

-- the column of the two words a and b that the code read
pub named_at : (ws : List ℕ) (i : ℕ) → i < length ws / 2 → {a b : ℕ} → (a ≡ get_or ws (2 * i) 0) × (b ≡ get_or ws (2 * i + 1) 0) → {c : ColumnDescriptor} → c ≡ column_named a b → drop i (columns_named ws) ≡ c ∷ drop (i + 1) (columns_named ws)
named_at ws i h r e = rw (e, r.0, r.1) (named_here ws i h)

-- what was joined to the column
pub record Joined (a b : ℕ) (x : Option (List ColumnDescriptor)) (cs : List ColumnDescriptor) : Type 0 where
  pub others : List ColumnDescriptor
  pub read : x ≡ Some others
  pub all : cs ≡ column_named a b ∷ others

joined_is : (a b : ℕ) (x : Option (List ColumnDescriptor)) (cs : List ColumnDescriptor) → joined (read_column a b) x ≡ Some cs → Joined a b x cs
unfolding read_column
joined_is a b x cs h = by (is_column a b) x h
  where
    by : (t : Bool) (y : Option (List ColumnDescriptor)) → joined (cond t (Some (column_named a b)) None) y ≡ Some cs → Joined a b y cs
    by true (Some ds) q = record { others = ds; read = refl; all = cc }
    by true None q = let z : ◌≡◌ {A = ℕ} 0 1 = cc in absurd (omega arith)
    by false y q = let z : ◌≡◌ {A = ℕ} 0 1 = cc in absurd (omega arith)

pub read_named : (ws : List ℕ) (cs : List ColumnDescriptor) → read_columns ws ≡ Some cs → columns_named ws ≡ cs
unfolding read_columns columns_named
read_named [] cs h = cc
read_named (a ∷ []) cs h = let z : ◌≡◌ {A = ℕ} 0 1 = cc in absurd (omega arith)
read_named (a ∷ (b ∷ ws)) cs h =
    let j = joined_is a b (read_columns ws) cs h in
    rw (read_named ws j.others j.read) (sym j.all)
