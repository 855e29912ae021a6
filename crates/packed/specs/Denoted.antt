-- Which number a packed decimal is, and which number a text denotes: for the law that ties the text to z/Architecture (proofs/Number.antt). Assumes nothing.
--
-- What digits and signs mean is z/Architecture's (crates/zdecimal). The format has no point: the scale, which the column gives, says how many of the digits are fraction digits.
use Rattle.std.specs.Prelude.{ℕ, ◌+◌, ◌-◌, ◌*◌, ◌<◌, Bool, false, cond, List, [], ◌∷◌, ltb, eqb, length, get_or}
use Rattle.zdecimal.specs.ZDecimal.{Sign, plus, minus, base10}
use Rattle.packed.specs.Packed.{digit_nibbles}

-- a number in decimal: its sign; the natural number that all its digits make, without the point; and how many of them are fraction digits
pub record DecimalNumber : Type 0 where
  pub signed : Sign
  pub magnitude : ℕ
  pub fraction_digits : ℕ

-- a text denotes a number, or none
pub data Denoted : Type 0 where
  no_number : Denoted
  denoted : DecimalNumber → Denoted

-- ---- a reader of texts: a minus or none, at least one digit, and then nothing, or a point and at least one digit

-- `0` to `9`
abbrev pub is_digit : ℕ → Bool
is_digit c = cond (ltb c 0x30) false (ltb c 0x3A)

-- digits that were read: the natural number that they make, how many they are, and what follows them
pub record DigitsRead : Type 0 where
  pub magnitude : ℕ
  pub count : ℕ
  pub rest : List ℕ

-- the digits at the beginning of a text, after n digits that make v
unfoldable pub read_digits : ℕ → ℕ → List ℕ → DigitsRead
read_digits v n [] = record { magnitude = v; count = n; rest = [] }
read_digits v n (c ∷ cs) =
    cond (is_digit c) (read_digits (10 * v + (c - 0x30)) (n + 1) cs) (record { magnitude = v; count = n; rest = c ∷ cs })

-- after the last digit: the text ends
abbrev pub read_end : DecimalNumber → List ℕ → Denoted
read_end n [] = denoted n
read_end n (c ∷ cs) = no_number

-- after the point and the digits d, whose value counts the digits before the point too
abbrev pub read_fraction : Sign → DigitsRead → Denoted
read_fraction g d = cond (eqb d.count 0) no_number (read_end (record { signed = g; magnitude = d.magnitude; fraction_digits = d.count }) d.rest)

-- after the digits before the point, which make v: the text ends, or a point follows
abbrev pub read_point : Sign → ℕ → List ℕ → Denoted
read_point g v [] = denoted (record { signed = g; magnitude = v; fraction_digits = 0 })
read_point g v (c ∷ cs) = cond (eqb c 0x2E) (read_fraction g (read_digits v 0 cs)) no_number

-- after the digits d before the point
abbrev pub read_whole : Sign → DigitsRead → Denoted
read_whole g d = cond (eqb d.count 0) no_number (read_point g d.magnitude d.rest)

-- what a text denotes
abbrev pub denotes : List ℕ → Denoted
denotes [] = no_number
denotes (c ∷ cs) = cond (eqb c 0x2D) (read_whole minus (read_digits 0 0 cs)) (read_whole plus (read_digits 0 0 (c ∷ cs)))

-- ---- the number that nibbles are

-- the digits vs are all 0 to 9: what `are_digits` of zdecimal tests, place by place
abbrev pub ValidDigits : List ℕ → Type 0
ValidDigits vs = (k : ℕ) → k < length vs → get_or vs k 0 < 10

-- what P1 takes a sign nibble for
abbrev pub ported_sign : ℕ → Sign
ported_sign n = cond (eqb n 0xD) minus plus

-- the number of the packed decimal s at a scale, with a sign
abbrev pub packed_number : Sign → ℕ → List ℕ → DecimalNumber
packed_number g scale s = record { signed = g; magnitude = base10 (digit_nibbles s); fraction_digits = scale }
