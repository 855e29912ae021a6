-- The words of a value are read as that value. Assumes nothing.
use Prim.Native.Nat.{◌*◌, ◌/◌, ◌%◌, ◌<◌, ◌^◌}
use mathlib.Core.Path.{◌≡◌, refl, ap, ◌∙◌}
use mathlib.Core.Bool.{Bool, true, false, cond}
use native.Mathlib.Omega.{arith}
use lib.Dec.{T, eqb}
use lib.IntN.{ℤ, pos, negsuc}
use lib.Ieee.{Float, Format, binary32, binary64, is_nan, fits, nan_bits, of_bits, to_bits, top}
use lib.Ieee.Bits.{of_bits-to_bits, to_bits-lt, nan_bits_is}
use mir.Syntax.{w16, w32, w64}
use mir.Val.{SFits, of_z}
use mir.ValLaws.{to_z-of_z}
use Rattle.types.specs.declared.Db2Value.{Db2Value}
use Rattle.types.specs.declared.ValuePlace.{ValuePlace}
use Rattle.types.specs.Held.{float_bits}
use Rattle.numbers.specs.Number.{number_value, real_of, double_of}
use Rattle.words.specs.Values.{sort_word, kind_word, number_word, length_word}
use Rattle.words.specs.ValueReading.{variant_named, value_named}

-- a float of the format that is no NaN
abbrev pub InFormat : Format → Float → Type 0
InFormat f x = T (fits f x) × (is_nan x ≡ false)

-- every number of a value has its bits, as those of the code have; a Real and a Double are no NaN
abbrev pub InRange : Db2Value → Type 0
InRange Db2Value.Null = Unit {0}
InRange (Db2Value.SmallInt z) = SFits w16 z
InRange (Db2Value.Integer z) = SFits w32 z
InRange (Db2Value.BigInt z) = SFits w64 z
InRange (Db2Value.Real x) = InFormat binary32 x
InRange (Db2Value.RealNan n) = n < 2 ^ 32
InRange (Db2Value.Double x) = InFormat binary64 x
InRange (Db2Value.DoubleNan n) = Unit {0}
InRange (Db2Value.Decimal p) = Unit {0}
InRange (Db2Value.Char p) = Unit {0}
InRange (Db2Value.VarChar p) = Unit {0}
InRange (Db2Value.Binary p) = Unit {0}
InRange (Db2Value.Blob p) = Unit {0}
InRange (Db2Value.Clob p) = Unit {0}
InRange (Db2Value.RowId p) = Unit {0}
InRange (Db2Value.Date p) = Unit {0}
InRange (Db2Value.Time p) = Unit {0}
InRange (Db2Value.Timestamp p) = Unit {0}
InRange (Db2Value.Boolean b) = Unit {0}
InRange (Db2Value.Xml p) = Unit {0}

-- ---- the low bits of a signed number's 64 are its bits
low16 : (z : ℤ) → SFits w16 z → of_z w64 z % 2 ^ 16 ≡ of_z w16 z
low16 (pos n) f = let h = f.sfits in omega arith
low16 (negsuc n) f = let h = f.sfits in omega arith

low32 : (z : ℤ) → SFits w32 z → of_z w64 z % 2 ^ 32 ≡ of_z w32 z
low32 (pos n) f = let h = f.sfits in omega arith
low32 (negsuc n) f = let h = f.sfits in omega arith

-- ---- a float is read from its bits
module _ (f : Format) (x : Float) (h : InFormat f x) where
  bits_are : float_bits f x ≡ to_bits f x
  unfolding float_bits
  bits_are = rw h.1

  bits_small : float_bits f x < 2 * top f
  bits_small = rw bits_are (to_bits-lt f x h.0)

  back : of_bits f (float_bits f x) ≡ x
  back = rw bits_are (of_bits-to_bits f x h.0)

  no_nan : nan_bits f (float_bits f x) ≡ false
  no_nan = nan_bits_is f (float_bits f x) ∙ ap is_nan back ∙ h.1

real_back : (x : Float) → InFormat binary32 x → number_value (real_of (float_bits binary32 x % 2 ^ 32)) ≡ Db2Value.Real x
unfolding real_of
real_back x h =
    let small : float_bits binary32 x < 2 ^ 32 = bits_small binary32 x h in
    let e : float_bits binary32 x % 2 ^ 32 ≡ float_bits binary32 x = omega arith in
    rw (e, no_nan binary32 x h, back binary32 x h)

double_back : (x : Float) → InFormat binary64 x → number_value (double_of (float_bits binary64 x)) ≡ Db2Value.Double x
unfolding double_of
double_back x h = rw (no_nan binary64 x h, back binary64 x h)

flag_back : (b : Bool) → eqb (cond b 1 0) 1 ≡ b
flag_back true = refl
flag_back false = refl

variant_back : (v : Db2Value) → InRange v → variant_named (sort_word v) (number_word v) (length_word v) ≡ v
unfolding variant_named
variant_back Db2Value.Null h = refl
variant_back (Db2Value.SmallInt z) h = rw (low16 z h, to_z-of_z w16 z h)
variant_back (Db2Value.Integer z) h = rw (low32 z h, to_z-of_z w32 z h)
variant_back (Db2Value.BigInt z) h = rw (to_z-of_z w64 z h)
variant_back (Db2Value.Real x) h = real_back x h
variant_back (Db2Value.RealNan n) h = let e : n % 2 ^ 32 ≡ n = omega arith in rw e
variant_back (Db2Value.Double x) h = double_back x h
variant_back (Db2Value.DoubleNan n) h = refl
variant_back (Db2Value.Decimal p) h = refl
variant_back (Db2Value.Char p) h = refl
variant_back (Db2Value.VarChar p) h = refl
variant_back (Db2Value.Binary p) h = refl
variant_back (Db2Value.Blob p) h = refl
variant_back (Db2Value.Clob p) h = refl
variant_back (Db2Value.RowId p) h = refl
variant_back (Db2Value.Date p) h = refl
variant_back (Db2Value.Time p) h = refl
variant_back (Db2Value.Timestamp p) h = refl
variant_back (Db2Value.Boolean b) h = rw (flag_back b)
variant_back (Db2Value.Xml p) h = refl

sort_small : (v : Db2Value) → sort_word v < 2 ^ 8
sort_small Db2Value.Null = omega arith
sort_small (Db2Value.SmallInt z) = omega arith
sort_small (Db2Value.Integer z) = omega arith
sort_small (Db2Value.BigInt z) = omega arith
sort_small (Db2Value.Real x) = omega arith
sort_small (Db2Value.RealNan n) = omega arith
sort_small (Db2Value.Double x) = omega arith
sort_small (Db2Value.DoubleNan n) = omega arith
sort_small (Db2Value.Decimal p) = omega arith
sort_small (Db2Value.Char p) = omega arith
sort_small (Db2Value.VarChar p) = omega arith
sort_small (Db2Value.Binary p) = omega arith
sort_small (Db2Value.Blob p) = omega arith
sort_small (Db2Value.Clob p) = omega arith
sort_small (Db2Value.RowId p) = omega arith
sort_small (Db2Value.Date p) = omega arith
sort_small (Db2Value.Time p) = omega arith
sort_small (Db2Value.Timestamp p) = omega arith
sort_small (Db2Value.Boolean b) = omega arith
sort_small (Db2Value.Xml p) = omega arith

flag_small : (b : Bool) → cond b 1 0 < 2
flag_small true = omega arith
flag_small false = omega arith

-- the first word names the sort, and whether the value is external
module _ (v : ValuePlace) where
  pub sort_named : kind_word v % 2 ^ 8 ≡ sort_word v.value
  sort_named = omega (arith, sort_small v.value)

  flag_named : kind_word v / 2 ^ 8 % 2 ≡ cond v.external 1 0
  flag_named = omega (arith, sort_small v.value, flag_small v.external)

  -- the law of reading
  pub reads_value : InRange v.value → value_named (kind_word v) (number_word v.value) (length_word v.value) ≡ v
  unfolding value_named
  reads_value h = rw (sort_named, flag_named, variant_back v.value h, flag_back v.external)
