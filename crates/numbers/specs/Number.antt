-- Numbers from the bytes of a row: W3, W5 (the Rust: from_be_bytes, from_le_bytes), and the values that hold them. Assumes nothing.
use Rattle.std.specs.Prelude.{ℕ, ◌+◌, ◌*◌, cond, List, [], ◌∷◌, reverse, ℤ, Float}
use Rattle.std.specs.Float.{binary32, binary64}
use Rattle.std.specs.Float.Ieee.{nan_bits, of_bits}
use Rattle.std.specs.Int.{w16, w32, w64}
use mir.Val.{to_z}
use Rattle.types.specs.declared.ByteOrder.{ByteOrder}
use Rattle.types.specs.declared.ByteOrder.TheVariants.{BigEndian, LittleEndian}
use Rattle.types.specs.declared.Db2Value.{Db2Value}

-- the digits of s to the base 256, the first the highest, after those of n
abbrev pub base256 : ℕ → List ℕ → ℕ
base256 n [] = n
base256 n (b ∷ s) = base256 (n * 256 + b) s

-- the number that bytes stand for: big-endian has the highest byte first, little-endian the lowest
unfoldable pub unsigned : ByteOrder → List ℕ → ℕ
unsigned BigEndian s = base256 0 s
unsigned LittleEndian s = base256 0 (reverse s)

-- A number as a value holds it. `real` and `double` hold no NaN: a NaN is held by its bits
pub data Number : Type 0 where
  small_int integer big_int : ℤ → Number
  real double : Float → Number
  real_nan double_nan : ℕ → Number

abbrev pub number_value : Number → Db2Value
number_value (small_int z) = Db2Value.SmallInt z
number_value (integer z) = Db2Value.Integer z
number_value (big_int z) = Db2Value.BigInt z
number_value (real x) = Db2Value.Real x
number_value (real_nan n) = Db2Value.RealNan n
number_value (double x) = Db2Value.Double x
number_value (double_nan n) = Db2Value.DoubleNan n

-- the float with a pattern of bits (IEEE 754, as lib.Ieee has it), or the pattern itself where it is a NaN's
unfoldable pub real_of : ℕ → Number
real_of n = cond (nan_bits binary32 n) (real_nan n) (real (of_bits binary32 n))

unfoldable pub double_of : ℕ → Number
double_of n = cond (nan_bits binary64 n) (double_nan n) (double (of_bits binary64 n))

-- SmallInt, Integer and BigInt are signed by two's complement (mir.Val.to_z), of 16, 32 and 64 bits
abbrev pub small_int_in : ByteOrder → List ℕ → Number
small_int_in order s = small_int (to_z w16 (unsigned order s))

abbrev pub integer_in : ByteOrder → List ℕ → Number
integer_in order s = integer (to_z w32 (unsigned order s))

abbrev pub big_int_in : ByteOrder → List ℕ → Number
big_int_in order s = big_int (to_z w64 (unsigned order s))

-- W5
abbrev pub real_in : ByteOrder → List ℕ → Number
real_in order s = real_of (unsigned order s)

abbrev pub double_in : ByteOrder → List ℕ → Number
double_in order s = double_of (unsigned order s)
