use mathlib.Core.Path.{◌≡◌}
use lib.ListN.{drop}
use Rattle.unicode_standard.specs.Ascii.{all_ascii}
use Rattle.utf.proofs.AsciiLaws.{clear}
use Rattle.utf.proofs.ascii.has_high.Given as goal

abbrev pub invariant-loop-b : goal.invariant-loop-b
invariant-loop-b l = clear l.largest (drop l.b-index l.s) ≡ all_ascii l.s
