-- The text of a packed decimal: P1 to P5. Assumes nothing.
use Rattle.std.specs.Prelude.{ℕ, ◌+◌, ◌-◌, ◌/◌, ◌%◌, cond, List, [], ◌∷◌, ◌++◌, map, eqb, length, take, drop, get_or, replicate}

-- P1: the nibbles of bytes
unfoldable pub nibbles : List ℕ → List ℕ
nibbles [] = []
nibbles (b ∷ bs) = b / 16 ∷ b % 16 ∷ nibbles bs

-- P1: the nibble that is the sign
abbrev pub sign_nibble : List ℕ → ℕ
sign_nibble s = get_or (nibbles s) (length (nibbles s) - 1) 0

-- P1: a minus is written, a plus is not
unfoldable pub sign_text : List ℕ → List ℕ
sign_text s = cond (eqb (sign_nibble s) 0xD) (0x2D ∷ []) []

-- P2: all nibbles but the sign
abbrev pub digit_nibbles : List ℕ → List ℕ
digit_nibbles s = take (length (nibbles s) - 1) (nibbles s)

-- P2: nibbles A to F become `:` to `?`
abbrev pub character : ℕ → ℕ
character v = 0x30 + v

unfoldable pub digit_text : List ℕ → List ℕ
digit_text s = map character (digit_nibbles s)

-- P3
unfoldable pub trimmed : List ℕ → List ℕ
trimmed [] = 0x30 ∷ []
trimmed (d ∷ ds) = cond (eqb d 0x30) (trimmed ds) (d ∷ ds)

-- the whole part of the digits ds: all but the last `scale` of them
abbrev pub whole_part : ℕ → List ℕ → List ℕ
whole_part scale ds = take (length ds - scale) ds

abbrev pub zeros : ℕ → List ℕ
zeros n = replicate n 0x30

-- P4: the point and the fraction digits
unfoldable pub fraction : ℕ → List ℕ → List ℕ
fraction scale ds = cond (eqb scale 0) [] (0x2E ∷ (zeros (scale - length ds) ++ drop (length ds - scale) ds))

-- the text of the packed decimal s
unfoldable pub decimal_text : ℕ → List ℕ → List ℕ
decimal_text scale s = sign_text s ++ (trimmed (whole_part scale (digit_text s)) ++ fraction scale (digit_text s))
