-- Statements: what the reading as a number answers, a rule for each answer, by the bytes' places; and what the ported text has to do with it: N5a to N5c.
-- Assumes nothing.
use Rattle.std.specs.Prelude.{ℕ, ◌+◌, ◌-◌, ◌*◌, ◌^◌, ◌<◌, ◌≤◌, List, ◌++◌, ◌⊎◌, ◌≡◌, ℤ, pos, neg_ℤ, nat_abs, length, replicate, ◌≤ℤ◌, ◌<ℤ◌}
use Rattle.zdecimal.specs.ZDecimal.{z_sign_code, plus, minus}
use Rattle.zdecimal.specs.ByPlace.{digit_at, place_sum}
use Rattle.zdecimal.specs.Written.{packed_bytes}
use Rattle.packed.specs.Packed.{decimal_text}
use Rattle.packed.specs.Denoted.{DecimalNumber, denoted, denotes}
use Rattle.decimal.specs.Whole.{WholeTold, refused_whole, accepted_whole, ranged_answer, whole_answer}

-- ---- the rules: each says in full where it applies

abbrev pub OfLength : List ℕ → Type 0
OfLength s = (0 < length s) × (length s ≤ 128)

abbrev pub OfDigits : List ℕ → Type 0
OfDigits s = (k : ℕ) → k < 2 * length s - 1 → digit_at s k ≤ 9

-- the signs
abbrev pub IsPlus : ℕ → Type 0
IsPlus n = (n ≡ 0xA) ⊎ ((n ≡ 0xC) ⊎ ((n ≡ 0xE) ⊎ (n ≡ 0xF)))

abbrev pub IsMinus : ℕ → Type 0
IsMinus n = (n ≡ 0xB) ⊎ (n ≡ 0xD)

-- the bytes s are the integer z
pub data PackedIs (s : List ℕ) : ℤ → Type 0 where
  positive : IsPlus (z_sign_code s) → PackedIs s (pos (place_sum s))
  negative : IsMinus (z_sign_code s) → PackedIs s (neg_ℤ (pos (place_sum s)))

abbrev pub WithinRange : ℤ → Type 0
WithinRange z = (neg_ℤ (pos (2 ^ 63)) ≤ℤ z) × (z <ℤ pos (2 ^ 63))

pub data WholeRule (scale : ℕ) (s : List ℕ) : WholeTold → Type 0 where
  rule_6 : length s ≡ 0 → WholeRule scale s (refused_whole 6)
  rule_7 : 128 < length s → WholeRule scale s (refused_whole 7)
  rule_12 : OfLength s → (k : ℕ) → k < 2 * length s - 1 → 9 < digit_at s k → WholeRule scale s (refused_whole 12)
  rule_13 : OfLength s → OfDigits s → z_sign_code s < 0xA → WholeRule scale s (refused_whole 13)
  rule_14 : OfLength s → OfDigits s → {z : ℤ} → PackedIs s z → (WithinRange z → ⊥) → WholeRule scale s (refused_whole 14)
  rule_accepted : OfLength s → OfDigits s → {z : ℤ} → PackedIs s z → WithinRange z → WholeRule scale s (accepted_whole scale z)

-- an answer is the call's exactly where its rule holds
abbrev pub WholeByRule : Type 0
WholeByRule =
    (scale : ℕ) (s : List ℕ) (t : WholeTold) → (WholeRule scale s t → t ≡ whole_answer scale s) × (t ≡ whole_answer scale s → WholeRule scale s t)

-- zeros in front, as many as the length allows, change nothing
abbrev pub ZerosLead : Type 0
ZerosLead = (scale : ℕ) (s : List ℕ) (k : ℕ) → 0 < length s → k + length s ≤ 128 → whole_answer scale (replicate k 0 ++ s) ≡ whole_answer scale s

-- what a host writes is read: m, of at most 2 n + 1 digits, in n + 1 bytes with any of the signs; refusal 14 where the range has no such number
abbrev pub WrittenRead : Type 0
WrittenRead =
    (scale n m g : ℕ) → n < 128 → m < 10 ^ (2 * n + 1)
    → (IsPlus g → whole_answer scale (packed_bytes n m g) ≡ ranged_answer scale (pos m))
    × (IsMinus g → whole_answer scale (packed_bytes n m g) ≡ ranged_answer scale (neg_ℤ (pos m)))

-- ---- the ported text

-- the decimal number n, which a text denotes, is the integer z with the last `scale` digits behind the point
pub data IsAt : DecimalNumber → ℤ → ℕ → Type 0 where
  at_plus : {m scale : ℕ} → IsAt (record { signed = plus; magnitude = m; fraction_digits = scale }) (pos m) scale
  at_minus : {m scale : ℕ} → IsAt (record { signed = minus; magnitude = m; fraction_digits = scale }) (neg_ℤ (pos m)) scale

-- the text of s denotes z at the scale
abbrev pub TextIs : ℕ → List ℕ → ℤ → Type 0
TextIs scale s z = (n : DecimalNumber) × ((denotes (decimal_text scale s) ≡ denoted n) × IsAt n z scale)

-- where z is read, the text denotes z; with the sign B, which P1 takes for plus, z is 0 or below, and the text denotes it without its minus
abbrev pub TextDenotes : Type 0
TextDenotes =
    (scale : ℕ) (s : List ℕ) (z : ℤ) → accepted_whole scale z ≡ whole_answer scale s
    → ((z_sign_code s ≡ 0xB → ⊥) → TextIs scale s z)
    × (z_sign_code s ≡ 0xB → (z ≤ℤ pos 0) × (denotes (decimal_text scale s) ≡ denoted (record { signed = plus; magnitude = nat_abs z; fraction_digits = scale })))
