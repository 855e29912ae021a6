-- A column of a known type, by its words: the type, and what is then said of its value. Assumes nothing.
use Prim.Native.Nat.{ℕ, zero, suc, ◌/◌, ◌%◌, ◌^◌, ◌≤◌, ◌<◌}
use mathlib.Core.Path.{◌≡◌, refl, sym, ap, ◌∙◌}
use mathlib.Core.Bool.{Bool, true, false, not, ◌&&◌, true≢false}
use mathlib.Core.List.{List, [], ◌∷◌}
use native.Mathlib.Omega.{arith}
use lib.ListN.{length, get_or, drop}
use lib.Seq.{length-take-le}
use Rattle.types.specs.declared.Db2Type.{Db2Type}
use Rattle.types.specs.declared.Db2Type.TheVariants as type
use Rattle.types.specs.declared.ByteOrder.{ByteOrder}
use Rattle.types.specs.declared.ColumnDescriptor.{ColumnDescriptor}
use Rattle.types.specs.Names.{bit8000}
use Rattle.rules.specs.declared.Extent.{Extent}
use Rattle.rules.specs.declared.Extent.TheVariants.{Fixed, Counted}
use Rattle.rules.specs.Extent.{need, extent_of, type_extent}
use Rattle.rules.specs.Meaning.{type_item, type_refers}
use Rattle.rules.specs.Conversions.{conversions_of}
use Rattle.cell.specs.declared.CellItem.{CellItem}
use Rattle.cell.specs.Cell.{is_number, Holds, taken, OtherIs}
use Rattle.cell.proofs.ItemLaws.{holds_by}
use Rattle.cell.proofs.NumberLaws.{number_need}
use Rattle.cell.proofs.ReferLaws.{plain_in}
use Rattle.words.specs.Words.{types_with, type_named}
use Rattle.words.specs.Reading.{order_named, column_named}
use Rattle.row_words.specs.Passes.{type_numbers, NoNumber}

-- ---- the types after the first five are no numbers

all_other : List Db2Type → Bool
all_other [] = true
all_other (t ∷ ts) = not (is_number t) && all_other ts

first_other : (x y : Bool) → (not x && y) ≡ true → x ≡ false
first_other true y h = absurd (true≢false (sym h))
first_other false y h = refl

later_other : (x y : Bool) → (not x && y) ≡ true → y ≡ true
later_other true y h = absurd (true≢false (sym h))
later_other false y h = h

other_at : (ts : List Db2Type) → all_other ts ≡ true → (k : ℕ) → is_number (get_or ts k type.Null) ≡ false
unfolding all_other
other_at [] h k = refl
other_at (t ∷ ts) h zero = first_other (is_number t) (all_other ts) h
other_at (t ∷ ts) h (suc k) = other_at ts (later_other (is_number t) (all_other ts) h) k

pub no_number_lem : (a : ℕ) → 5 ≤ a % 2 ^ 8 → NoNumber a
unfolding type_named all_other
no_number_lem a h = by (a % 2 ^ 8) h
  where
    by : (k : ℕ) → 5 ≤ k → is_number (get_or (types_with (type_numbers a)) k type.Null) ≡ false
    by zero l = absurd (omega arith)
    by (suc zero) l = absurd (omega arith)
    by (suc (suc zero)) l = absurd (omega arith)
    by (suc (suc (suc zero))) l = absurd (omega arith)
    by (suc (suc (suc (suc zero)))) l = absurd (omega arith)
    by (suc (suc (suc (suc (suc k))))) l = other_at (drop 5 (types_with (type_numbers a))) refl k

-- ---- what the words of a column say

module _ (a b : ℕ) where
  pub is_other : NoNumber a → is_number (column_named a b).db2_type ≡ false
  unfolding column_named
  is_other h = h

  pub order_is : {x : ByteOrder} → x ≡ order_named (a / 2 ^ 49 % 2) → x ≡ (column_named a b).byte_order
  unfolding column_named
  order_is e = e

  pub ccsid_is : {x : ℕ} → x ≡ b / 2 ^ 32 % 2 ^ 16 → (column_named a b).ccsid ≡ x
  unfolding column_named
  ccsid_is e = sym e

  pub length_is : {x : ℕ} → x ≡ b % 2 ^ 16 → (column_named a b).length ≡ x
  unfolding column_named
  length_is e = sym e

  pub type_is : {x : Db2Type} → x ≡ type_named (a % 2 ^ 8) (a / 2 ^ 8 % 2 ^ 16) → x ≡ (column_named a b).db2_type
  unfolding column_named
  type_is e = e

  pub tag_is : (k : ℕ) → a % 2 ^ 8 ≡ k → (column_named a b).db2_type ≡ type_named k (type_numbers a)
  unfolding column_named
  tag_is k e = ap (λ (n : ℕ). type_named n (type_numbers a)) e

  pub small_int_is : a % 2 ^ 8 ≡ 0 → (column_named a b).db2_type ≡ type.SmallInt
  unfolding type_named
  small_int_is e = tag_is 0 e

  pub integer_is : a % 2 ^ 8 ≡ 1 → (column_named a b).db2_type ≡ type.Integer
  unfolding type_named
  integer_is e = tag_is 1 e

  pub big_int_is : a % 2 ^ 8 ≡ 2 → (column_named a b).db2_type ≡ type.BigInt
  unfolding type_named
  big_int_is e = tag_is 2 e

  pub real_is : a % 2 ^ 8 ≡ 3 → (column_named a b).db2_type ≡ type.Real
  unfolding type_named
  real_is e = tag_is 3 e

  pub double_is : a % 2 ^ 8 ≡ 4 → (column_named a b).db2_type ≡ type.Double
  unfolding type_named
  double_is e = tag_is 4 e

  pub decimal_is : a % 2 ^ 8 ≡ 5 → (column_named a b).db2_type ≡ type.Decimal (type_numbers a % 2 ^ 8) (type_numbers a / 2 ^ 8)
  unfolding type_named
  decimal_is e = tag_is 5 e

  pub char_is : a % 2 ^ 8 ≡ 7 → (column_named a b).db2_type ≡ type.Char (type_numbers a)
  unfolding type_named
  char_is e = tag_is 7 e

  pub var_char_is : a % 2 ^ 8 ≡ 8 → (column_named a b).db2_type ≡ type.VarChar (type_numbers a)
  unfolding type_named
  var_char_is e = tag_is 8 e

  pub date_is : a % 2 ^ 8 ≡ 15 → (column_named a b).db2_type ≡ type.Date
  unfolding type_named
  date_is e = tag_is 15 e

  pub time_is : a % 2 ^ 8 ≡ 16 → (column_named a b).db2_type ≡ type.Time
  unfolding type_named
  time_is e = tag_is 16 e

  pub timestamp_is : a % 2 ^ 8 ≡ 17 → (column_named a b).db2_type ≡ type.Timestamp
  unfolding type_named
  timestamp_is e = tag_is 17 e

-- ---- a column of this type

pub fixed : (n : ℕ) (s : List ℕ) → n ≡ need (Fixed n) s
unfolding need
fixed n s = refl

-- of numbers the first word alone says how many bytes they take
pub number_same : (a : ℕ) → a % 2 ^ 8 < 5 → (b d : ℕ) (s : List ℕ) → need (extent_of (column_named a b)) s ≡ need (extent_of (column_named a d)) s
number_same a h b d s = by (a % 2 ^ 8) refl h
  where
    by : (k : ℕ) → a % 2 ^ 8 ≡ k → k < 5 → need (extent_of (column_named a b)) s ≡ need (extent_of (column_named a d)) s
    by zero e l = sym (number_need (column_named a b) (small_int_is a b e) 2 refl s) ∙ number_need (column_named a d) (small_int_is a d e) 2 refl s
    by (suc zero) e l = sym (number_need (column_named a b) (integer_is a b e) 4 refl s) ∙ number_need (column_named a d) (integer_is a d e) 4 refl s
    by (suc (suc zero)) e l = sym (number_need (column_named a b) (big_int_is a b e) 8 refl s) ∙ number_need (column_named a d) (big_int_is a d e) 8 refl s
    by (suc (suc (suc zero))) e l = sym (number_need (column_named a b) (real_is a b e) 4 refl s) ∙ number_need (column_named a d) (real_is a d e) 4 refl s
    by (suc (suc (suc (suc zero)))) e l = sym (number_need (column_named a b) (double_is a b e) 8 refl s) ∙ number_need (column_named a d) (double_is a d e) 8 refl s
    by (suc (suc (suc (suc (suc k))))) e l = absurd (omega arith)

-- a VarChar within the row
pub counted_is : (c : ColumnDescriptor) (n : ℕ) → bit8000 n ≡ false → type_extent (type.VarChar n) c ≡ Counted 1
counted_is c n h = rw h

module _ (c : ColumnDescriptor) {t : Db2Type} (e : c.db2_type ≡ t) (x : Extent) (f : type_extent t c ≡ x) (s : List ℕ) where
  pub typed_need : need x s ≡ need (extent_of c) s
  typed_need = ap (λ (y : Extent). need y s) (sym f) ∙ ap (λ (u : Db2Type). need (type_extent u c) s) (sym e)

-- a value within the row, at a release
module _ (release : ℕ) (c : ColumnDescriptor) {t : Db2Type} (e : c.db2_type ≡ t) (x : Extent) (f : type_extent t c ≡ x) (s : List ℕ) where
  pub within_row_lem : (n : ℕ) → n ≡ need x s → need (extent_of c) s ≤ length s → (r : CellItem) → ((l : List ℕ) → length l ≡ n → Holds release r l (type_item (conversions_of release) t c l))
      → ((l : List ℕ) → type_refers t c l ≡ false) → OtherIs release (record { item = r; used = n; external = false }) c s
  within_row_lem n k h r m z =
      let q = k ∙ typed_need c e x f s in
      let l : length (taken c s) ≡ n = length-take-le (need (extent_of c) s) s h ∙ sym q in
      (holds_by release c (taken c s) e r (m (taken c s) l), (q, plain_in release c (taken c s) (ap (λ (u : Db2Type). type_refers u c (taken c s)) e ∙ z (taken c s))))
