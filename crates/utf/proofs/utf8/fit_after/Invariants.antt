use Rattle.utf.proofs.Utf8Laws.{After}
use Rattle.utf.proofs.utf8.fit_after.Given as goal

abbrev pub invariant-loop-n : goal.invariant-loop-n
invariant-loop-n g l = After l.s l.i l.low l.high g.row.N l.n
