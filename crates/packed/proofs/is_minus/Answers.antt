use Prim.Native.Nat.{ℕ}
use mathlib.Core.Path.{ap}
use lib.Dec.{eqb}
use Rattle.packed.proofs.Nibbles.{sign_nibble_lem}
use Rattle.packed.proofs.is_minus.Goals as goal

pub returns : goal.returns
returns c = ap (λ (n : ℕ). eqb n 0xD) (sign_nibble_lem _ c.requires)
