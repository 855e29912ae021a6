-- Packed decimals as z/Architecture has them: N5a. Nothing here comes from the Rust. Assumes nothing.
-- z/Architecture Principles of Operation, "Decimal Instructions", the packed format, from memory: each byte holds two decimal digits, save the rightmost, which holds a digit and,
-- right of it, the sign. Digits are 0 to 9. The sign is plus for A, C, E and F, and minus for B and D. Other digits and signs are invalid. The number is an integer: the format
-- has no point. An operand there has at most 16 bytes; the format is taken here for any number of them.
use Rattle.std.specs.Prelude.{ℕ, ◌+◌, ◌-◌, ◌*◌, ◌/◌, ◌%◌, ◌^◌, Bool, true, cond, ◌&&◌, List, [], ◌∷◌, ltb, eqb, length, get_or}

-- the digits, the highest first
unfoldable pub z_digits : List ℕ → List ℕ
z_digits [] = []
z_digits (b ∷ []) = b / 16 ∷ []
z_digits (b ∷ c ∷ s) = b / 16 ∷ b % 16 ∷ z_digits (c ∷ s)

-- what stands right of the last digit, in the last byte
abbrev pub z_sign_code : List ℕ → ℕ
z_sign_code s = get_or s (length s - 1) 0 % 16

-- all are 0 to 9
unfoldable pub are_digits : List ℕ → Bool
are_digits [] = true
are_digits (d ∷ ds) = ltb d 10 && are_digits ds

-- a sign; `invalid` is none
pub data Sign : Type 0 where
  plus : Sign
  minus : Sign
  invalid : Sign

abbrev pub z_sign : ℕ → Sign
z_sign n = cond (ltb n 0xA) invalid (cond (eqb n 0xB) minus (cond (eqb n 0xD) minus plus))

-- the natural number of digits in base ten, the highest first
unfoldable pub base10 : List ℕ → ℕ
base10 [] = 0
base10 (d ∷ ds) = d * 10 ^ length ds + base10 ds
