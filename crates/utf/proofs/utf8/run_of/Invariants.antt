use Prim.Native.Nat.{◌-◌}
use lib.ListN.{length}
use Rattle.utf.specs.Utf8Code.{Good}
use Rattle.utf.proofs.utf8.run_of.Given as goal

abbrev pub invariant-loop-e : goal.invariant-loop-e
invariant-loop-e l = Good l.e l.s

abbrev pub decreases-loop-e : goal.decreases-loop-e
decreases-loop-e l = length l.s - l.e
