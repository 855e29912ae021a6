-- Worked examples of packed decimals as text. The cases A to P stand in crates/edges. Assumes nothing.
use mathlib.Core.List.{[], ◌∷◌}
use mathlib.Core.Path.{◌≡◌, refl}
use Rattle.packed.specs.Packed.{nibbles, sign_text, digit_text, trimmed, fraction, decimal_text}

pub record Examples : Type 0 where
  -- the decimal of case B: `123.45`
  pub B : decimal_text 2 (0x12 ∷ 0x34 ∷ 0x5C ∷ []) ≡ 0x31 ∷ 0x32 ∷ 0x33 ∷ 0x2E ∷ 0x34 ∷ 0x35 ∷ []
  -- digits A to F become `:` to `?`; only zeros go: `:;<=>?`
  pub above_9 : decimal_text 0 (0x0A ∷ 0xBC ∷ 0xDE ∷ 0xFC ∷ []) ≡ 0x3A ∷ 0x3B ∷ 0x3C ∷ 0x3D ∷ 0x3E ∷ 0x3F ∷ []
  -- a sign nibble that is a digit is plus: `1`
  pub digit_sign : decimal_text 0 (0x19 ∷ []) ≡ 0x31 ∷ []

pub examples : Examples
unfolding decimal_text nibbles sign_text digit_text trimmed fraction
examples = record { B = refl; above_9 = refl; digit_sign = refl }
