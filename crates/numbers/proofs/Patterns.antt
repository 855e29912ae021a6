-- A float value holds the bits of the pattern that it was made from, for every pattern of 32 or 64 bits: -0, subnormals, infinities and NaNs included.
-- Assumes nothing.
use Prim.Native.Nat.{ℕ, ◌*◌, ◌^◌, ◌<◌}
use mathlib.Core.Path.{◌≡◌, refl, sym, ap, ◌∙◌, subst}
use mathlib.Core.Bool.{Bool, true, false, not, cond}
use lib.Dec.{T}
use lib.Ieee.{Float, Format, binary32, binary64, is_nan, nan_bits, of_bits, top}
use lib.Ieee.Bits.{to_bits-of_bits, nan_bits_is}
use Rattle.types.specs.Held.{bits, float_bits, held}
use Rattle.numbers.specs.Number.{Number, number_value, real_of, double_of}

-- for either format: `number` makes the value of a float, and `kept` that of a NaN's pattern
module _ (f : Format) (number : Float → Number) (kept : ℕ → Number)
    (is_number : (x : Float) → held (number_value (number x)) ≡ bits (float_bits f x)) (is-kept : (n : ℕ) → held (number_value (kept n)) ≡ bits n) where
  pattern : (n : ℕ) → n < 2 * top f → held (number_value (cond (nan_bits f n) (kept n) (number (of_bits f n)))) ≡ bits n
  unfolding float_bits
  pattern n h = go (nan_bits f n) refl
    where
      go : (b : Bool) → nan_bits f n ≡ b → held (number_value (cond b (kept n) (number (of_bits f n)))) ≡ bits n
      go true e = is-kept n
      go false e =
          let no : is_nan (of_bits f n) ≡ false = sym (nan_bits_is f n) ∙ e in
          is_number (of_bits f n) ∙ rw no (ap bits (to_bits-of_bits f n h (subst (λ (t : Bool). T (not t)) (sym no) tt)))

pub real_bits : (n : ℕ) → n < 2 ^ 32 → held (number_value (real_of n)) ≡ bits n
unfolding real_of
real_bits n h = pattern binary32 Number.real Number.real_nan (λ x. refl) (λ k. refl) n h

pub double_bits : (n : ℕ) → n < 2 ^ 64 → held (number_value (double_of n)) ≡ bits n
unfolding double_of
double_bits n h = pattern binary64 Number.double Number.double_nan (λ x. refl) (λ k. refl) n h
