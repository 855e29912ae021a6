use Rattle.std.proofs.Common.{◌≡◌}
use lib.ListN.{drop}
use Rattle.printing.specs.Lines.{with_bytes}
use Rattle.printing.proofs.lines.Line.text.Given as goal

abbrev pub invariant-loop-b : goal.invariant-loop-b
invariant-loop-b g l = with_bytes l.self.kept.items (drop l.b-index l.s) ≡ with_bytes l.initial.self.kept.items l.s
