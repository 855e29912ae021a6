-- Statement: the digits by their places in the bytes, and their number as a sum by places: N5a. Assumes nothing.
use Rattle.std.specs.Prelude.{ℕ, zero, suc, ◌+◌, ◌-◌, ◌*◌, ◌/◌, ◌%◌, ◌^◌, ◌<◌, cond, List, ◌≡◌, eqb, length, get_or}
use Rattle.zdecimal.specs.ZDecimal.{z_digits, base10}

-- the digit number k of the bytes s, from 0: the high half of a byte where k is even, else the low
abbrev pub digit_at : List ℕ → ℕ → ℕ
digit_at s k = cond (eqb (k % 2) 0) (get_or s (k / 2) 0 / 16) (get_or s (k / 2) 0 % 16)

-- f 0 + f 1 + .. + f (n - 1)
unfoldable pub sum_of : ℕ → (ℕ → ℕ) → ℕ
sum_of zero f = 0
sum_of (suc n) f = f 0 + sum_of n (λ (k : ℕ). f (suc k))

-- the sum of the digits of s, each by its power of ten: the last has the power 0
abbrev pub place_sum : List ℕ → ℕ
place_sum s = sum_of (2 * length s - 1) (λ (k : ℕ). digit_at s k * 10 ^ (2 * length s - 2 - k))

pub record ByPlace (s : List ℕ) : Type 0 where
  pub digit_count : length (z_digits s) ≡ 2 * length s - 1
  pub digit : (k : ℕ) → k < 2 * length s - 1 → get_or (z_digits s) k 0 ≡ digit_at s k
  pub total : base10 (z_digits s) ≡ place_sum s
