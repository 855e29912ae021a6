use Prim.Native.Nat.{◌-◌}
use lib.ListN.{length}
use Rattle.utf.specs.Lossy.{PartLength}
use Rattle.utf.proofs.lossy.lone_blocks.Given as goal

abbrev pub invariant-loop-i : goal.invariant-loop-i
invariant-loop-i l = PartLength l.s l.i l.n

abbrev pub decreases-loop-i : goal.decreases-loop-i
decreases-loop-i l = length l.s - l.i
