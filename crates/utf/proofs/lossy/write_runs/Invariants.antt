use Prim.Native.Nat.{◌-◌}
use lib.ListN.{length}
use Rattle.utf.specs.Lossy.{Wrote}
use Rattle.utf.proofs.lossy.write_runs.Given as goal

abbrev pub invariant-loop-i : goal.invariant-loop-i
invariant-loop-i l = Wrote l.s l.initial.out l.out l.i l.o l.replaced

abbrev pub decreases-loop-i : goal.decreases-loop-i
decreases-loop-i l = length l.s - l.i
