use mathlib.Core.Path.{sym, ◌∙◌}
use Rattle.utf.proofs.LikelyLaws.{likely_end}
use Rattle.utf.proofs.likely.bytes_are_likely_text.Goals as goal

pub returns : goal.returns
returns c = likely_end _ _ c.loop-e-test.false ∙ sym c.loop-e.invariant.same
