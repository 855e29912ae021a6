-- Laws of extents that the code rests on: what a hexadecimal digit is, what two bytes say of a header, and that a unit has at most two bytes.
-- Assumes nothing.
use Rattle.std.specs.Prelude.{None, Option, Some}
use Prim.Native.Nat.{ℕ, ◌+◌, ◌*◌, ◌≤◌, ◌<◌}
use mathlib.Core.Path.{◌≡◌, refl, sym}
use mathlib.Core.Bool.{Bool, true, false, cond, ◌&&◌, ◌||◌, true≢false}
use mathlib.Core.List.{List, [], ◌∷◌}
use native.Mathlib.Omega.{arith}
use native.Mathlib.Nat.{mul-le-mul_right}
use lib.ListN.{length, get_or, take}
use lib.Dec.{leb, ltb, eqb}
use borrow.Author.Tests.{leb-true, ltb-true}
use Rattle.std.specs.Char.{is_ascii_hexdigit}
use Rattle.types.specs.declared.Db2Type.{Db2Type}
use Rattle.types.specs.declared.Db2Type.TheVariants as type
use Rattle.types.specs.declared.ColumnDescriptor.{ColumnDescriptor}
use Rattle.rules.specs.declared.Extent.{Extent}
use Rattle.rules.specs.declared.Extent.TheVariants.{Fixed, Counted, Header, Inline, Locator, Materialized}
use Rattle.numbers.specs.Number.{base256, unsigned}
use Rattle.types.specs.Names.{bit8000, low15, graphic_length_is_character_count}
use Rattle.types.specs.Names.{graphic_unit}
use Rattle.rules.specs.Extent.{be16, be32, is_reference, is_hex_digit, hex_digits, is_short_reference, says_header, lob_need, need, varying_extent, lob_extent, length_extent, type_extent}
use Rattle.cell.specs.Inner.{unit_size, size_of, most_size, most_need}

-- the rules' hexadecimal digits are those of ASCII
hex_digit_is : (b : ℕ) → is_hex_digit b ≡ is_ascii_hexdigit b
unfolding is_hex_digit
hex_digit_is b = or_assoc (leb 0x30 b && leb b 0x39) (leb 0x41 b && leb b 0x46) (leb 0x61 b && leb b 0x66)
  where
    or_assoc : (x y z : Bool) → (x || (y || z)) ≡ ((x || y) || z)
    or_assoc true y z = refl
    or_assoc false y z = refl

pub hex_step : (b : ℕ) (s : List ℕ) → hex_digits (b ∷ s) ≡ cond (is_ascii_hexdigit b) (1 + hex_digits s) (hex_digits s)
unfolding hex_digits
hex_step b s = rw (hex_digit_is b) (go (is_ascii_hexdigit b))
  where
    go : (t : Bool) → cond t 1 0 + hex_digits s ≡ cond t (1 + hex_digits s) (hex_digits s)
    go true = omega arith
    go false = omega arith

pub says_two : (s : List ℕ) → says_header s ≡ true → 2 ≤ length s
unfolding says_header
says_two s e = go (leb 2 (length s)) refl e
  where
    go : (t : Bool) → leb 2 (length s) ≡ t → (t && bit8000 (be16 s)) ≡ true → 2 ≤ length s
    go true l f = leb-true 2 (length s) l
    go false l f = absurd (true≢false (sym f))

-- a reference that is short has fewer bytes than declared
short_below : (n : ℕ) (s : List ℕ) → is_short_reference n s ≡ true → length s < n
unfolding is_short_reference
short_below n s e = go (leb 1024 n) (leb 16 (length s)) (ltb (length s) n) refl e
  where
    go : (x y z : Bool) → ltb (length s) n ≡ z → (x && (y && (z && leb 16 (hex_digits s)))) ≡ true → length s < n
    go true true true l f = ltb-true (length s) n l
    go true true false l f = absurd (true≢false (sym f))
    go true false z l f = absurd (true≢false (sym f))
    go false y z l f = absurd (true≢false (sym f))

-- units
pub unit_two : (c : ColumnDescriptor) → graphic_unit c ≤ 2
unit_two c = go (graphic_length_is_character_count c)
  where
    go : (t : Bool) → cond t 2 1 ≤ 2
    go true = omega arith
    go false = omega arith

varying_small : (n u : ℕ) → u ≤ 2 → unit_size (varying_extent n u) ≤ 2
varying_small n u h = go (bit8000 n)
  where
    go : (t : Bool) → unit_size (cond t (Header (low15 n)) (Counted u)) ≤ 2
    go true = omega arith
    go false = h

lob_small : (r : Option ℕ) (e : Extent) → unit_size e ≤ 2 → unit_size (lob_extent r e) ≤ 2
lob_small (Some w) e h = omega arith
lob_small None e h = h

length_small : (n : ℕ) → unit_size (length_extent n) ≤ 2
length_small n = go (eqb n 0)
  where
    go : (t : Bool) → unit_size (cond t Locator Inline) ≤ 2
    go true = omega arith
    go false = omega arith

pub unit_small : (t : Db2Type) (c : ColumnDescriptor) → unit_size (type_extent t c) ≤ 2
unit_small type.SmallInt c = omega arith
unit_small type.Integer c = omega arith
unit_small type.BigInt c = omega arith
unit_small type.Real c = omega arith
unit_small type.Double c = omega arith
unit_small (type.Decimal p s) c = omega arith
unit_small (type.DecFloat d) c = omega arith
unit_small (type.Char n) c = omega arith
unit_small (type.VarChar n) c = varying_small n 1 (omega arith)
unit_small type.LongVarChar c = omega arith
unit_small type.Clob c = lob_small c.extdta_reference_length (length_extent c.length) (length_small c.length)
unit_small (type.Binary n) c = omega arith
unit_small (type.VarBinary n) c = omega arith
unit_small type.Blob c = lob_small c.extdta_reference_length (length_extent c.length) (length_small c.length)
unit_small type.BlobLocator c = omega arith
unit_small type.Date c = omega arith
unit_small type.Time c = omega arith
unit_small type.Timestamp c = omega arith
unit_small (type.Graphic n) c = omega arith
unit_small (type.VarGraphic n) c = varying_small n (graphic_unit c) (unit_two c)
unit_small type.DbClob c = lob_small c.extdta_reference_length (length_extent c.length) (length_small c.length)
unit_small type.ClobLocator c = omega arith
unit_small type.DbClobLocator c = omega arith
unit_small (type.LobBytes n) c = omega arith
unit_small (type.LobChar n) c = omega arith
unit_small (type.RowId n) c = omega arith
unit_small type.Boolean c = omega arith
unit_small type.Xml c = lob_small c.extdta_reference_length Inline (omega arith)
unit_small type.Null c = omega arith

-- ---- the most bytes that a value takes

module _ (s : List ℕ) (b : (i : ℕ) → get_or s i 0 < 256) where
  be16_most : be16 s ≤ 65535
  unfolding unsigned
  be16_most = go s b
    where
      go : (t : List ℕ) → ((i : ℕ) → get_or t i 0 < 256) → base256 0 (take 2 t) ≤ 65535
      go [] h = omega arith
      go (x ∷ []) h = omega (arith, h 0)
      go (x ∷ y ∷ t) h = omega (arith, h 0, h 1)

  be32_most : be32 s ≤ 4294967295
  unfolding unsigned
  be32_most = go s b
    where
      go : (t : List ℕ) → ((i : ℕ) → get_or t i 0 < 256) → base256 0 (take 4 t) ≤ 4294967295
      go [] h = omega arith
      go (x ∷ []) h = omega (arith, h 0)
      go (x ∷ y ∷ []) h = omega (arith, h 0, h 1)
      go (x ∷ y ∷ z ∷ []) h = omega (arith, h 0, h 1, h 2)
      go (x ∷ y ∷ z ∷ w ∷ t) h = omega (arith, h 0, h 1, h 2, h 3)

  lob_most : (whole : ℕ) → whole ≤ most_need → lob_need whole s ≤ most_need
  unfolding lob_need
  lob_most whole h = go (leb 4 (length s)) (is_reference s)
    where
      go : (t r : Bool) → cond t (cond r 9 whole) 4 ≤ most_need
      go true true = omega arith
      go true false = h
      go false r = omega arith

  pub need_most : (e : Extent) → unit_size e ≤ 2 → size_of e ≤ most_size → need e s ≤ most_need
  unfolding need
  need_most (Fixed n) u h = omega arith
  need_most (Counted unit) u h = go (leb 2 (length s))
    where
      go : (t : Bool) → cond t (2 + unit * be16 s) 2 ≤ most_need
      go true = omega (arith, be16_most, mul-le-mul_right (be16 s) u)
      go false = omega arith
  need_most (Header n) u h = go (says_header s)
    where
      go : (t : Bool) → cond t (2 + low15 (be16 s)) n ≤ most_need
      go true = omega arith
      go false = omega arith
  need_most Inline u h = lob_most (4 + be32 s) (omega (arith, be32_most))
  need_most Locator u h = lob_most 4 (omega arith)
  need_most (Materialized n) u h = go (is_short_reference n s) refl
    where
      go : (t : Bool) → is_short_reference n s ≡ t → cond t (length s) n ≤ most_need
      go true e = omega (arith, short_below n s e)
      go false e = omega arith
