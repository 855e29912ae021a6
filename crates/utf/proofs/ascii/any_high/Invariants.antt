use mathlib.Core.Bool.{false}
use mathlib.Core.Path.{◌≡◌}
use Rattle.utf.specs.Ascii.{AsciiRun}
use Rattle.utf.proofs.ascii.any_high.Given as goal

abbrev pub invariant-loop-b : goal.invariant-loop-b
invariant-loop-b l = l.high ≡ false → AsciiRun l.b-index l.s
