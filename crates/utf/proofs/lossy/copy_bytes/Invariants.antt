use lib.ListN.{drop}
use Rattle.buffer.proofs.Writing.{Writing}
use Rattle.utf.proofs.lossy.copy_bytes.Given as goal

abbrev pub invariant-loop-i : goal.invariant-loop-i
invariant-loop-i l = Writing l.s l.initial.out (drop l.i l.s) l.out l.i
