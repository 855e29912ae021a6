-- How a number is written as packed decimal, for the statement that it is read back: N5a. Assumes nothing.
use Rattle.std.specs.Prelude.{ℕ, zero, suc, ◌+◌, ◌*◌, ◌/◌, ◌%◌, List, [], ◌∷◌, ◌++◌}

-- the last 2 n digits of m, two a byte
unfoldable pub digit_bytes : ℕ → ℕ → List ℕ
digit_bytes zero m = []
digit_bytes (suc n) m = digit_bytes n (m / 100) ++ ((m / 10 % 10 * 16 + m % 10) ∷ [])

-- the last 2 n + 1 digits of m and the sign code g, in n + 1 bytes
abbrev pub packed_bytes : ℕ → ℕ → ℕ → List ℕ
packed_bytes n m g = digit_bytes n (m / 10) ++ ((m % 10 * 16 + g) ∷ [])
