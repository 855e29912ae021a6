-- When two words are a column's: the tests of `is_column`, as the definition has them. Assumes nothing.
use Prim.Native.Nat.{ℕ, zero, suc, ◌+◌, ◌*◌, ◌/◌, ◌%◌, ◌≤◌, ◌<◌, ◌^◌}
use mathlib.Core.Path.{◌≡◌, refl, sym, ◌∙◌}
use mathlib.Core.Bool.{Bool, true, false, cond, ◌&&◌}
use mathlib.Core.List.{List, [], ◌∷◌}
use native.Mathlib.Omega.{arith}
use borrow.Author.Rules.{rules}
use borrow.Author.Tests.{eq-eqb, ne_eqb, eqb-true, eqb-false}
use lib.Dec.{eqb}
use lib.ListN.{get_or}
use Rattle.types.specs.Names.{name_of, own_numbers}
use Rattle.types.specs.declared.Db2Type.{Db2Type}
use Rattle.types.specs.declared.Db2Type.TheVariants as type
use Rattle.words.specs.Words.{pack_type, little_endian_bit, reference_bit, reference_width, origin_number, first_word, second_word, types_with, type_named}
use Rattle.words.specs.Reading.{order_named, reference_named, origin_named, column_named, is_column}
use Rattle.words.proofs.Fields.{origin_small}

-- ---- the word of a type that bits name has 24 bits, and the place of its name has 8
abbrev Each : (Db2Type → Type 0) → List Db2Type → Type 0
Each P [] = Unit {0}
Each P (t ∷ ts) = P t × Each P ts

each_at : (P : Db2Type → Type 0) (ts : List Db2Type) → Each P ts → P type.Null → (i : ℕ) → P (get_or ts i type.Null)
each_at P [] h k i = k
each_at P (t ∷ ts) h k zero = h.0
each_at P (t ∷ ts) h k (suc i) = each_at P ts h.1 k i

all_small : (n : ℕ) → n < 65536 → Each (λ t. pack_type t < 2 ^ 24) (types_with n)
all_small n h = search rules

all_placed : (n : ℕ) → Each (λ t. name_of t < 2 ^ 8) (types_with n)
all_placed n = search rules

-- ---- a bit that names a flag is that flag's bit
bit_back : (x : ℕ) → x < 2 → cond (eqb x 1) 1 0 ≡ x
bit_back zero h = refl
bit_back (suc zero) h = refl
bit_back (suc (suc x)) h = omega arith

order_back : (x : ℕ) → x < 2 → little_endian_bit (order_named x) ≡ x
order_back zero h = refl
order_back (suc zero) h = refl
order_back (suc (suc x)) h = omega arith

reference_back : (x n : ℕ) → x < 2 → reference_bit (reference_named x n) ≡ x
reference_back zero n h = refl
reference_back (suc zero) n h = refl
reference_back (suc (suc x)) n h = omega arith

width_back : (x n : ℕ) → x < 2 → reference_width (reference_named x n) ≡ x * n
width_back zero n h = omega arith
width_back (suc zero) n h = omega arith
width_back (suc (suc x)) n h = omega arith

-- a number names an origin of at most that number, and of that number where it is below 3
origin_most : (x : ℕ) → origin_number (origin_named x) ≤ x
origin_most zero = omega arith
origin_most (suc zero) = omega arith
origin_most (suc (suc zero)) = omega arith
origin_most (suc (suc (suc x))) = omega (arith, origin_small (origin_named (suc (suc (suc x)))))

origin_back : (x : ℕ) → x < 3 → origin_number (origin_named x) ≡ x
origin_back zero h = refl
origin_back (suc zero) h = refl
origin_back (suc (suc zero)) h = refl
origin_back (suc (suc (suc x))) h = absurd (omega arith)

and_false : (x : Bool) → false ≡ x && false
and_false true = refl
and_false false = refl

and_first : (x y : Bool) → x && y ≡ true → x ≡ true
and_first true y h = refl
and_first false y h = h

lowest : (k n a : ℕ) → k < 2 ^ 8 → k + n * 2 ^ 8 ≡ a % 2 ^ 24 → k ≡ a % 2 ^ 8
lowest k n a h e = omega arith

-- ---- a number by its parts: t has 24 bits, c, i and h have 8, x, y and z have one, o has two, and u is what is above
whole : (a a24 a32 a40 a48 a49 a50 a51 t c i h x y z o u : ℕ) → a ≡ t + a24 * 2 ^ 24 → a24 ≡ c + a32 * 2 ^ 8 → a32 ≡ i + a40 * 2 ^ 8 → a40 ≡ h + a48 * 2 ^ 8
    → a48 ≡ x + a49 * 2 → a49 ≡ y + a50 * 2 → a50 ≡ z + a51 * 2 → a51 ≡ o + u * 2 ^ 2
    → a ≡ t + c * 2 ^ 24 + i * 2 ^ 32 + h * 2 ^ 40 + x * 2 ^ 48 + y * 2 ^ 49 + z * 2 ^ 50 + o * 2 ^ 51 + u * 2 ^ 53
whole a a24 a32 a40 a48 a49 a50 a51 t c i h x y z o u e1 e2 e3 e4 e5 e6 e7 e8 = omega arith

first_parts : (a : ℕ) → a ≡ a % 2 ^ 24 + a / 2 ^ 24 % 2 ^ 8 * 2 ^ 24 + a / 2 ^ 32 % 2 ^ 8 * 2 ^ 32 + a / 2 ^ 40 % 2 ^ 8 * 2 ^ 40 + a / 2 ^ 48 % 2 * 2 ^ 48 + a / 2 ^ 49 % 2 * 2 ^ 49 + a / 2 ^ 50 % 2 * 2 ^ 50 + a / 2 ^ 51 % 2 ^ 2 * 2 ^ 51 + a / 2 ^ 53 * 2 ^ 53
first_parts a =
    whole a (a / 2 ^ 24) (a / 2 ^ 32) (a / 2 ^ 40) (a / 2 ^ 48) (a / 2 ^ 49) (a / 2 ^ 50) (a / 2 ^ 51) (a % 2 ^ 24) (a / 2 ^ 24 % 2 ^ 8) (a / 2 ^ 32 % 2 ^ 8) (a / 2 ^ 40 % 2 ^ 8) (a / 2 ^ 48 % 2) (a / 2 ^ 49 % 2) (a / 2 ^ 50 % 2) (a / 2 ^ 51 % 2 ^ 2) (a / 2 ^ 53)
    (omega arith) (omega arith) (omega arith) (omega arith) (omega arith) (omega arith) (omega arith) (omega arith)

-- two numbers of these parts, one without h and u, are equal where t and o are
module _ (w t c i h x y z p o u : ℕ) (small : w < 2 ^ 24) (most : p ≤ o) where
  parts_same : w + c * 2 ^ 24 + i * 2 ^ 32 + x * 2 ^ 48 + y * 2 ^ 49 + z * 2 ^ 50 + p * 2 ^ 51 ≡ t + c * 2 ^ 24 + i * 2 ^ 32 + h * 2 ^ 40 + x * 2 ^ 48 + y * 2 ^ 49 + z * 2 ^ 50 + o * 2 ^ 51 + u * 2 ^ 53
      → (w ≡ t) × ((h ≡ 0) × ((p ≡ o) × (u ≡ 0)))
  parts_same e =
      let k : w + p * 2 ^ 51 ≡ t + h * 2 ^ 40 + o * 2 ^ 51 + u * 2 ^ 53 = omega arith in
      (omega arith, (omega arith, (omega arith, omega arith)))

together : (w t c i h x y z p o u : ℕ) → w ≡ t → h ≡ 0 → p ≡ o → u ≡ 0
    → w + c * 2 ^ 24 + i * 2 ^ 32 + x * 2 ^ 48 + y * 2 ^ 49 + z * 2 ^ 50 + p * 2 ^ 51 ≡ t + c * 2 ^ 24 + i * 2 ^ 32 + h * 2 ^ 40 + x * 2 ^ 48 + y * 2 ^ 49 + z * 2 ^ 50 + o * 2 ^ 51 + u * 2 ^ 53
together w t c i h x y z p o u e1 e2 e3 e4 = omega arith

whole_second : (b b16 b24 b32 b48 t c i h : ℕ) → b ≡ t + b16 * 2 ^ 16 → b16 ≡ c + b24 * 2 ^ 8 → b24 ≡ i + b32 * 2 ^ 8 → b32 ≡ h + b48 * 2 ^ 16
    → b ≡ t + c * 2 ^ 16 + i * 2 ^ 24 + h * 2 ^ 32 + b48 * 2 ^ 48
whole_second b b16 b24 b32 b48 t c i h e1 e2 e3 e4 = omega arith

second_parts : (b : ℕ) → b ≡ b % 2 ^ 16 + b / 2 ^ 16 % 2 ^ 8 * 2 ^ 16 + b / 2 ^ 24 % 2 ^ 8 * 2 ^ 24 + b / 2 ^ 32 % 2 ^ 16 * 2 ^ 32 + b / 2 ^ 48 * 2 ^ 48
second_parts b =
    whole_second b (b / 2 ^ 16) (b / 2 ^ 24) (b / 2 ^ 32) (b / 2 ^ 48) (b % 2 ^ 16) (b / 2 ^ 16 % 2 ^ 8) (b / 2 ^ 24 % 2 ^ 8) (b / 2 ^ 32 % 2 ^ 16)
    (omega arith) (omega arith) (omega arith) (omega arith)

above_same : (s v w : ℕ) → s + v * 2 ^ 48 ≡ s + w * 2 ^ 48 → v ≡ w
above_same s v w e = omega arith

-- the width v that b has, and the one that the bit x leaves of it
width_lost : (x v : ℕ) → x < 2 → x * 65535 < v → x * (v % 2 ^ 16) ≡ v → ⊥
width_lost zero v h k e = omega arith
width_lost (suc zero) v h k e = omega arith
width_lost (suc (suc x)) v h k e = omega arith

width_kept : (x v : ℕ) → x < 2 → v ≤ x * 65535 → x * (v % 2 ^ 16) ≡ v
width_kept zero v h k = omega arith
width_kept (suc zero) v h k = omega arith
width_kept (suc (suc x)) v h k = omega arith

module _ (a b : ℕ) where
  type_word : ℕ
  type_word = pack_type (type_named (a % 256) (a / 256 % 65536))

  type_small : type_word < 2 ^ 24
  unfolding type_word type_named
  type_small = each_at (λ t. pack_type t < 2 ^ 24) (types_with (a / 256 % 65536)) (all_small (a / 256 % 65536) (omega arith)) (omega arith) (a % 256)

  pub type_fits : pack_type (column_named a b).db2_type < 2 ^ 24
  unfolding column_named type_word
  type_fits = type_small

  -- the number of the origin that a names
  origin_read : ℕ
  origin_read = origin_number (origin_named (a / 2 ^ 51 % 2 ^ 2))

  origin_fits : (origin_read ≤ a / 2 ^ 51 % 2 ^ 2) × (origin_read ≤ 2)
  unfolding origin_read
  origin_fits = (origin_most (a / 2 ^ 51 % 2 ^ 2), origin_small (origin_named (a / 2 ^ 51 % 2 ^ 2)))

  name_small : name_of (type_named (a % 256) (a / 256 % 65536)) < 2 ^ 8
  unfolding type_named
  name_small = each_at (λ t. name_of t < 2 ^ 8) (types_with (a / 256 % 65536)) (all_placed (a / 256 % 65536)) (omega arith) (a % 256)

  -- the words of the column that a and b name
  first_is : first_word (column_named a b) ≡ type_word + a / 2 ^ 24 % 2 ^ 8 * 2 ^ 24 + a / 2 ^ 32 % 2 ^ 8 * 2 ^ 32 + a / 2 ^ 48 % 2 * 2 ^ 48 + a / 2 ^ 49 % 2 * 2 ^ 49 + a / 2 ^ 50 % 2 * 2 ^ 50 + origin_read * 2 ^ 51
  unfolding column_named type_word origin_read
  first_is = rw (bit_back (a / 2 ^ 48 % 2) (omega arith), order_back (a / 2 ^ 49 % 2) (omega arith), reference_back (a / 2 ^ 50 % 2) (b / 2 ^ 48 % 2 ^ 16) (omega arith))

  second_is : second_word (column_named a b) ≡ b % 2 ^ 16 + b / 2 ^ 16 % 2 ^ 8 * 2 ^ 16 + b / 2 ^ 24 % 2 ^ 8 * 2 ^ 24 + b / 2 ^ 32 % 2 ^ 16 * 2 ^ 32 + a / 2 ^ 50 % 2 * (b / 2 ^ 48 % 2 ^ 16) * 2 ^ 48
  unfolding column_named
  second_is = rw (width_back (a / 2 ^ 50 % 2) (b / 2 ^ 48 % 2 ^ 16) (omega arith))

  first_same : first_word (column_named a b) ≡ a → (type_word ≡ a % 2 ^ 24) × ((a / 2 ^ 40 % 2 ^ 8 ≡ 0) × ((origin_read ≡ a / 2 ^ 51 % 2 ^ 2) × (a / 2 ^ 53 ≡ 0)))
  first_same q =
      parts_same type_word (a % 2 ^ 24) (a / 2 ^ 24 % 2 ^ 8) (a / 2 ^ 32 % 2 ^ 8) (a / 2 ^ 40 % 2 ^ 8) (a / 2 ^ 48 % 2) (a / 2 ^ 49 % 2) (a / 2 ^ 50 % 2) origin_read (a / 2 ^ 51 % 2 ^ 2) (a / 2 ^ 53) type_small origin_fits.0
      (sym first_is ∙ q ∙ first_parts a)

  second_same : second_word (column_named a b) ≡ b → a / 2 ^ 50 % 2 * (b / 2 ^ 48 % 2 ^ 16) ≡ b / 2 ^ 48
  second_same q =
      above_same (b % 2 ^ 16 + b / 2 ^ 16 % 2 ^ 8 * 2 ^ 16 + b / 2 ^ 24 % 2 ^ 8 * 2 ^ 24 + b / 2 ^ 32 % 2 ^ 16 * 2 ^ 32) (a / 2 ^ 50 % 2 * (b / 2 ^ 48 % 2 ^ 16)) (b / 2 ^ 48)
      (sym second_is ∙ q ∙ second_parts b)

  other_first : (first_word (column_named a b) ≡ a → ⊥) → false ≡ is_column a b
  unfolding is_column
  other_first h = rw (ne_eqb (first_word (column_named a b)) a h)

  other_second : (second_word (column_named a b) ≡ b → ⊥) → false ≡ is_column a b
  unfolding is_column
  other_second h = rw (ne_eqb (second_word (column_named a b)) b h) (and_false (eqb (first_word (column_named a b)) a))

  -- the place of the column's type is in the low 8 bits
  pub name_read : is_column a b ≡ true → name_of (column_named a b).db2_type ≡ a % 2 ^ 8
  unfolding is_column column_named type_word
  name_read h =
      let e = (first_same (eqb-true (first_word (column_named a b)) a (and_first (eqb (first_word (column_named a b)) a) (eqb (second_word (column_named a b)) b) h))).0 in
      lowest (name_of (type_named (a % 256) (a / 256 % 65536))) (own_numbers (type_named (a % 256) (a / 256 % 65536))) a name_small e

  -- a column's number has 8 bits
  pub wide_number : (a / 2 ^ 40 % 2 ^ 8 ≡ 0 → ⊥) → false ≡ is_column a b
  wide_number h = other_first (λ q. h (first_same q).1.0)

  -- there are three origins, and nothing stands above them
  pub bits_above : 3 * 2 ^ 51 ≤ a → false ≡ is_column a b
  bits_above h = other_first (λ q. omega (arith, (first_same q).1.1.0, (first_same q).1.1.1, origin_fits.1))

  -- a reference length without its bit
  pub width_alone : a / 2 ^ 50 % 2 * 65535 < b / 2 ^ 48 → false ≡ is_column a b
  width_alone h = other_second (λ q. width_lost (a / 2 ^ 50 % 2) (b / 2 ^ 48) (omega arith) h (second_same q))

  -- else the type alone decides
  module _ (low : a < 3 * 2 ^ 51) (number : a / 2 ^ 40 % 2 ^ 8 ≡ 0) (width : b / 2 ^ 48 ≤ a / 2 ^ 50 % 2 * 65535) where
    second_back : second_word (column_named a b) ≡ b
    second_back = second_is ∙ rw (width_kept (a / 2 ^ 50 % 2) (b / 2 ^ 48) (omega arith) width) (sym (second_parts b))

    low_bits : a % 2 ^ 24 ≡ a % 256 + a / 256 % 65536 * 256
    low_bits = omega arith

    origin_kept : origin_read ≡ a / 2 ^ 51 % 2 ^ 2
    unfolding origin_read
    origin_kept = origin_back (a / 2 ^ 51 % 2 ^ 2) (omega arith)

    none_above : a / 2 ^ 53 ≡ 0
    none_above = omega arith

    same_type_lem : type_word ≡ a % 256 + a / 256 % 65536 * 256 → first_word (column_named a b) ≡ a
    same_type_lem e =
        first_is
        ∙ together type_word (a % 2 ^ 24) (a / 2 ^ 24 % 2 ^ 8) (a / 2 ^ 32 % 2 ^ 8) (a / 2 ^ 40 % 2 ^ 8) (a / 2 ^ 48 % 2) (a / 2 ^ 49 % 2) (a / 2 ^ 50 % 2) origin_read (a / 2 ^ 51 % 2 ^ 2) (a / 2 ^ 53) (e ∙ sym low_bits) number origin_kept none_above
        ∙ sym (first_parts a)

    other_type : (type_word ≡ a % 256 + a / 256 % 65536 * 256 → ⊥) → first_word (column_named a b) ≡ a → ⊥
    other_type h q = h ((first_same q).0 ∙ low_bits)

    pub by_type : {r : Bool} → r ≡ eqb (pack_type (type_named (a % 256) (a / 256 % 65536))) (a % 256 + a / 256 % 65536 * 256) → r ≡ is_column a b
    unfolding is_column type_word
    by_type {r} e = e ∙ by (eqb type_word (a % 256 + a / 256 % 65536 * 256)) refl
      where
        by : (x : Bool) → eqb type_word (a % 256 + a / 256 % 65536 * 256) ≡ x → x ≡ eqb (first_word (column_named a b)) a && eqb (second_word (column_named a b)) b
        by true q = rw (eq-eqb (first_word (column_named a b)) a (same_type_lem (eqb-true type_word (a % 256 + a / 256 % 65536 * 256) q)), eq-eqb (second_word (column_named a b)) b second_back)
        by false q = rw (ne_eqb (first_word (column_named a b)) a (other_type (eqb-false type_word (a % 256 + a / 256 % 65536 * 256) q)))
