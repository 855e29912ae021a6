-- Upper-case hexadecimal text, at a position. Assumes nothing.
use Prim.Native.Nat.{ℕ, ◌+◌, ◌/◌, ◌%◌, ◌<◌, ◌≤◌}
use mathlib.Core.List.{List, [], ◌∷◌}
use mathlib.Core.Path.{◌≡◌, refl}
use lib.ListN.{length, drop, get_or, drop_of_length-le}
use Rattle.conversion.specs.Hex.{hex_digit, hex_text}
use Rattle.buffer.proofs.Writing.{next}

-- h and l are the digits of the byte i
pub hex_next : (s : List ℕ) (i : ℕ) → i < length s → (h l : ℕ) → h ≡ hex_digit (get_or s i 0 / 16) → l ≡ hex_digit (get_or s i 0 % 16) → hex_text (drop i s) ≡ h ∷ l ∷ hex_text (drop (i + 1) s)
unfolding hex_text
hex_next s i q h l a b = rw (next s i q, a, b) refl

pub hex_end : (s : List ℕ) (i : ℕ) → length s ≤ i → hex_text (drop i s) ≡ []
unfolding hex_text
hex_end s i h = rw (drop_of_length-le s h)
