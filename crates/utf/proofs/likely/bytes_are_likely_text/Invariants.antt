use Prim.Native.Nat.{◌-◌}
use lib.ListN.{length}
use Rattle.utf.specs.LikelyCode.{LikelyRun}
use Rattle.utf.proofs.likely.bytes_are_likely_text.Given as goal

abbrev pub invariant-loop-e : goal.invariant-loop-e
invariant-loop-e l = LikelyRun l.e l.s

abbrev pub decreases-loop-e : goal.decreases-loop-e
decreases-loop-e l = length l.s - l.e
