-- Two bytes as a number, as std's from_be_bytes reads them. Assumes nothing.
use mathlib.Core.Path.{◌≡◌}
use mathlib.Core.List.{[], ◌∷◌}
use Prim.Native.Nat.{ℕ}
use native.Mathlib.Omega.{arith}
use Rattle.std.specs.Int.{w16, from_be_bytes}
use Rattle.types.specs.declared.ByteOrder.TheVariants.{BigEndian}
use Rattle.numbers.specs.Number.{unsigned}

pub big_endian : (a b : ℕ) → from_be_bytes w16 (a ∷ b ∷ []) ≡ unsigned BigEndian (a ∷ b ∷ [])
unfolding unsigned
big_endian a b = omega arith
