-- Worked examples of packed decimals through the call's definitions, for every text buffer. The cases F to I stand in crates/edges. Assumes nothing.
use Prim.Native.Nat.{ℕ}
use mathlib.Core.List.{List, [], ◌∷◌}
use mathlib.Core.Path.{◌≡◌, refl}
use Rattle.buffer.specs.Buffer.{unreplaced, text_answer, text_buffer}
use Rattle.packed.specs.Packed.{nibbles, sign_text, digit_text, trimmed, fraction, decimal_text}
use Rattle.decimal.specs.Decimal.{decimal_answer, decimal_buffer}

-- for every text buffer d the bytes s at a scale give the text t: it is written into d, or d is too short for it
abbrev pub Gives : ℕ → List ℕ → List ℕ → Type 0
Gives scale s t = (d : List ℕ) → (decimal_answer scale s d ≡ text_answer (unreplaced t) d) × (decimal_buffer scale s d ≡ text_buffer t d)

pub record Examples : Type 0 where
  -- `0.05`
  pub fraction_zeros : Gives 2 (0x00 ∷ 0x5C ∷ []) (0x30 ∷ 0x2E ∷ 0x30 ∷ 0x35 ∷ [])
  -- `0.001`
  pub digits_lacking : Gives 3 (0x1C ∷ []) (0x30 ∷ 0x2E ∷ 0x30 ∷ 0x30 ∷ 0x31 ∷ [])
  -- `-0`
  pub minus_zero : Gives 0 (0x0D ∷ []) (0x2D ∷ 0x30 ∷ [])
  -- sign nibble B is plus: `123`
  pub sign_B : Gives 0 (0x12 ∷ 0x3B ∷ []) (0x31 ∷ 0x32 ∷ 0x33 ∷ [])

pub examples : Examples
unfolding decimal_answer decimal_buffer decimal_text nibbles sign_text digit_text trimmed fraction
examples = record { fraction_zeros = λ d. (refl, refl); digits_lacking = λ d. (refl, refl); minus_zero = λ d. (refl, refl); sign_B = λ d. (refl, refl) }
