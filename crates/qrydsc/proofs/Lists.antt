-- What a caller can rely on in the column list of every answer: it has all its places, its count is within them, the columns' numbers are 0, 1, .., and the
-- places after them are blank. Assumes nothing.
use mathlib.Core.Path.{◌≡◌, refl, ap, ◌∙◌}
use mathlib.Core.Bool.{Bool, true, false}
use mathlib.Core.List.{List, [], ◌∷◌}
use Prim.Native.Nat.{ℕ, zero, suc, ◌+◌, ◌-◌, ◌≤◌, ◌<◌}
use native.Mathlib.Omega.{arith}
use native.Mathlib.Nat.{not-suc-le-zero, le_of_suc-le-suc}
use lib.Dec.{ltb}
use lib.ListN.{length, get_or, replicate, length-append, get_or-append, length-replicate}
use lib.Seq.{get_or-append-add}
use borrow.Author.Tests.{ltb-false}
use Rattle.types.specs.declared.ColumnDescriptor.{ColumnDescriptor}
use Rattle.types.specs.declared.Columns.{Columns}
use Rattle.types.specs.Places.{max_columns, filled, blank_column, column_list}
use Rattle.triplets.specs.Triplets.{breaks_off}
use Rattle.triplets.specs.Descriptors.{columns_of}
use Rattle.qrydsc.specs.Origins.{column_at}
use Rattle.qrydsc.specs.Qrydsc.{numbered, list_answer, max_qrydsc, description}

pub record Ordered (c : Columns) : Type 0 where
  pub all_places : length c.columns ≡ max_columns
  pub count_fits : c.count ≤ max_columns
  pub numbers : (i : ℕ) → i < c.count → (column_at c i).column_index ≡ i
  pub blanks : (i : ℕ) → c.count ≤ i → column_at c i ≡ blank_column

pub length_numbered : (k : ℕ) (cs : List ColumnDescriptor) → length (numbered k cs) ≡ length cs
unfolding numbered
length_numbered k [] = refl
length_numbered k (c ∷ cs) = ap suc (length_numbered (k + 1) cs)

number_at : (k : ℕ) (cs : List ColumnDescriptor) (i : ℕ) (b : ColumnDescriptor) → i < length cs → (get_or (numbered k cs) i b).column_index ≡ k + i
unfolding numbered
number_at k [] i b h = absurd (not-suc-le-zero h)
number_at k (c ∷ cs) zero b h = omega arith
number_at k (c ∷ cs) (suc i) b h = number_at (k + 1) cs i b (le_of_suc-le-suc h) ∙ omega arith

pub blank_after : {A : Type 0} (b : A) (n j : ℕ) → get_or (replicate n b) j b ≡ b
blank_after b zero j = refl
blank_after b (suc n) zero = refl
blank_after b (suc n) (suc j) = blank_after b n j

ordered : (cs : List ColumnDescriptor) → length cs ≤ max_columns → Ordered (column_list (numbered 0 cs))
unfolding column_list filled
ordered cs h =
    let l = length_numbered 0 cs in
    record {
      all_places = omega (arith, length-append (numbered 0 cs) (replicate (max_columns - length (numbered 0 cs)) blank_column), length-replicate (max_columns - length (numbered 0 cs)) blank_column);
      count_fits = omega arith;
      numbers = λ i k.
          ap (λ (c : ColumnDescriptor). c.column_index) (get_or-append (numbered 0 cs) (replicate (max_columns - length (numbered 0 cs)) blank_column) blank_column i k)
          ∙ number_at 0 cs i blank_column (omega arith)
          ∙ omega arith;
      blanks = λ i k.
          let j : ℕ = i - length (numbered 0 cs) in
          let e : i ≡ length (numbered 0 cs) + j = omega arith in
          rw e (get_or-append-add (numbered 0 cs) (replicate (max_columns - length (numbered 0 cs)) blank_column) j blank_column ∙ blank_after blank_column (max_columns - length (numbered 0 cs)) j);
    }

pub ordered_none : Ordered (column_list [])
unfolding numbered
ordered_none = ordered [] (omega arith)

ordered_listed : (f : Bool) (cs : List ColumnDescriptor) → Ordered (list_answer f cs).columns
unfolding list_answer
ordered_listed f cs = go (ltb max_columns (length cs)) refl
  where
    go : (b : Bool) → ltb max_columns (length cs) ≡ b → Ordered (list_answer f cs).columns
    go true t = rw t ordered_none
    go false t = rw t (ordered cs (ltb-false max_columns (length cs) t))

-- the column list of every answer
pub description_ordered : (s : List ℕ) → Ordered (description s).columns
unfolding description
description_ordered s = go (ltb max_qrydsc (length s)) refl
  where
    go : (b : Bool) → ltb max_qrydsc (length s) ≡ b → Ordered (description s).columns
    go true t = rw t ordered_none
    go false t = rw t (ordered_listed (breaks_off s) (columns_of s))
