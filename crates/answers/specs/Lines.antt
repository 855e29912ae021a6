-- The fields of a line of the list of stored answers: for inner functions; no public promise rests on it. Assumes nothing.
use Rattle.std.specs.Prelude.{Option, IfSome, ℕ, ◌^◌, ◌<◌, ◌≡◌, ◌⊎◌, List, [], ◌∷◌, ◌++◌, length, replicate}
use Rattle.conversion.specs.Hex.{hex_text}
use Rattle.io.specs.Digits.{last_digits}

-- bytes as a field: upper-case hexadecimal, and `-` for no bytes
unfoldable pub bytes_field : List ℕ → List ℕ
bytes_field [] = 0x2D ∷ []
bytes_field (b ∷ bs) = hex_text (b ∷ bs)

-- a field is the number n: its digits are all of n's
abbrev pub IsNumber : List ℕ → ℕ → Type 0
IsNumber s n = (last_digits 10 (length s) n ≡ s) × (n < 10 ^ length s)

-- bs is one byte many times: the byte that two hexadecimal digits write, as often as a decimal number says
abbrev pub Repeats : List ℕ → List ℕ → List ℕ → Type 0
Repeats pair times bs = (b n : ℕ) × (hex_text (b ∷ []) ≡ pair) × IsNumber times n × (bs ≡ replicate n b)

-- a field says bs: it writes them out, or, with a `*` between them, byte and number
abbrev pub Says : List ℕ → List ℕ → Type 0
Says s bs = (bytes_field bs ≡ s) ⊎ ((pair times : List ℕ) × (pair ++ (0x2A ∷ times) ≡ s) × Repeats pair times bs)

-- a text is what is printed, where the type of what is printed states its text
abbrev pub IsPrinted : Option (List ℕ) → List ℕ → Type 0
IsPrinted printed s = IfSome printed (λ text. text ≡ s)
