use Prim.Native.Nat.{◌+◌, ◌-◌, ◌≤◌}
use lib.ListN.{length}
use Rattle.utf.specs.Utf16Code.{AfterFirst}
use Rattle.utf.proofs.utf16.write_blocks.Given as goal

abbrev pub invariant-loop-i : goal.invariant-loop-i
invariant-loop-i l = (l.i + 2 ≤ length l.s) × ((l.credit ≤ 64) × AfterFirst l.s l.initial.out l.out l.i l.o)

abbrev pub decreases-loop-i : goal.decreases-loop-i
decreases-loop-i l = length l.s - l.i
