use Prim.Native.Nat.{◌+◌}
use mathlib.Core.Path.{◌≡◌}
use lib.ListN.{length}
use Rattle.zdecimal.proofs.Digits.{Makes}
use Rattle.zdecimal.proofs.magnitude.Given as goal

abbrev pub invariant-loop-b : goal.invariant-loop-b
invariant-loop-b l = (l.last + 1 ≡ length l.«data») × Makes l.«data» l.n l.b-index
