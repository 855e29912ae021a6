use Rattle.packed.proofs.Nibbles.{Left}
use Rattle.packed.proofs.whole_start.Given as goal

abbrev pub invariant-loop-z : goal.invariant-loop-z
invariant-loop-z l = Left l.«data» l.fn.w l.z
