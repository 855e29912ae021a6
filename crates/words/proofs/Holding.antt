-- Which numbers a type of each name holds: the tests of `holds`, as the definition has them. Assumes nothing.
use Prim.Native.Nat.{ℕ, ◌+◌, ◌*◌, ◌/◌, ◌%◌}
use mathlib.Core.Path.{◌≡◌, refl, sym}
use mathlib.Core.Bool.{Bool, true, false}
use native.Mathlib.Omega.{arith}
use borrow.Author.Tests.{eq-eqb, ne_eqb, ltb-true, ltb-false, eqb-true, eqb-false}
use lib.Dec.{ltb, eqb}

-- a type of place k that holds no number
pub no_numbers : (k n : ℕ) → eqb n 0 ≡ eqb k (k + n * 256)
no_numbers k n = by (eqb n 0) refl
  where
    by : (b : Bool) → eqb n 0 ≡ b → b ≡ eqb k (k + n * 256)
    by true e = let z = eqb-true n 0 e in sym (eq-eqb k (k + n * 256) (omega arith))
    by false e = let z = eqb-false n 0 e in sym (ne_eqb k (k + n * 256) (λ q. z (omega arith)))

-- one that holds a number of 16 bits
pub all_numbers : (k n : ℕ) → true ≡ eqb (k + n * 256) (k + n * 256)
all_numbers k n = sym (eq-eqb (k + n * 256) (k + n * 256) refl)

-- Decimal, which holds two of 8 bits
pub two_numbers : (n : ℕ) → true ≡ eqb (5 + (n % 256 + n / 256 * 256) * 256) (5 + n * 256)
two_numbers n = sym (eq-eqb (5 + (n % 256 + n / 256 * 256) * 256) (5 + n * 256) (omega arith))

-- DecFloat, which holds one of 8 bits
pub small_number : (n : ℕ) → ltb n 256 ≡ eqb (6 + n % 256 * 256) (6 + n * 256)
small_number n = by (ltb n 256) refl
  where
    by : (b : Bool) → ltb n 256 ≡ b → b ≡ eqb (6 + n % 256 * 256) (6 + n * 256)
    by true e = let z = ltb-true n 256 e in sym (eq-eqb (6 + n % 256 * 256) (6 + n * 256) (omega arith))
    by false e = let z = ltb-false n 256 e in sym (ne_eqb (6 + n % 256 * 256) (6 + n * 256) (λ q. omega arith))
