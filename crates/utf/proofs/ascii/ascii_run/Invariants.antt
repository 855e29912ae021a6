use Rattle.utf.specs.Ascii.{AsciiRun}
use Rattle.utf.proofs.ascii.ascii_run.Given as goal

abbrev pub invariant-loop-i : goal.invariant-loop-i
invariant-loop-i l = AsciiRun l.i l.s
