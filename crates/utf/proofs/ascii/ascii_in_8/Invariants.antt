use Rattle.utf.proofs.AsciiLaws.{Leading}
use Rattle.utf.proofs.ascii.ascii_in_8.Given as goal

abbrev pub invariant-loop-b : goal.invariant-loop-b
invariant-loop-b l = Leading l.s l.all l.n l.b-index
