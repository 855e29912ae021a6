-- Laws of numbers that the code rests on: they take as many bytes as their type says, and refer to nothing. Assumes nothing.
use Prim.Native.Nat.{ℕ}
use mathlib.Core.Path.{◌≡◌, sym, ap, ◌∙◌}
use mathlib.Core.Bool.{false, not, ◌&&◌}
use mathlib.Core.List.{List}
use lib.ListN.{take}
use Rattle.types.specs.declared.Db2Type.{Db2Type}
use Rattle.types.specs.declared.Db2Value.{Db2Value}
use Rattle.types.specs.declared.ColumnDescriptor.{ColumnDescriptor}
use Rattle.numbers.specs.Number.{Number as RowNumber, number_value}
use Rattle.rules.specs.declared.Extent.{Extent}
use Rattle.rules.specs.declared.Extent.TheVariants.{Fixed}
use Rattle.rules.specs.Extent.{need, extent_of, type_extent}
use Rattle.rules.specs.Meaning.{Item, item_in, type_item, is_empty_lob, type_refers, refers_in}
use Rattle.rules.specs.Conversions.{conversions_of}
use Rattle.cell.specs.Cell.{taken, NumberIs}

-- a column whose type has a width
pub width_need : (c : ColumnDescriptor) (n : ℕ) → type_extent c.db2_type c ≡ Fixed n → (s : List ℕ) → n ≡ need (extent_of c) s
unfolding need
width_need c n x s = ap (λ (e : Extent). need e s) (sym x)

-- a column of this type, whose value is the number f
module _ (c : ColumnDescriptor) {t : Db2Type} (e : c.db2_type ≡ t) (n : ℕ) (x : type_extent t c ≡ Fixed n) where
  pub number_need : (s : List ℕ) → n ≡ need (extent_of c) s
  unfolding need
  number_need s = sym (ap (λ (u : Db2Type). need (type_extent u c) s) e ∙ ap (λ (k : Extent). need k s) x)

  module _ (release : ℕ) (s : List ℕ) (f : List ℕ → RowNumber) (i : (l : List ℕ) → type_item (conversions_of release) t c l ≡ Item.numeric (f l)) where
    item_is : item_in (conversions_of release) c (taken c s) ≡ Item.numeric (f (take n s))
    unfolding item_in
    item_is = ap (λ (u : Db2Type). type_item (conversions_of release) u c (taken c s)) e ∙ i (taken c s) ∙ ap (λ (k : ℕ). Item.numeric (f (take k s))) (sym (number_need s))

    pub number_is : ((l : List ℕ) → type_refers t c l ≡ false) → (v : Db2Value) → v ≡ number_value (f (take n s)) → NumberIs release v c s
    unfolding refers_in is_empty_lob
    number_is r v h =
        let b : refers_in (conversions_of release) c (taken c s) ≡ false = ap (λ (y : Item). not (is_empty_lob y) && type_refers c.db2_type c (taken c s)) item_is ∙ ap (λ (u : Db2Type). type_refers u c (taken c s)) e ∙ r (taken c s) in
        ((f (take n s), (item_is, h)), b)
