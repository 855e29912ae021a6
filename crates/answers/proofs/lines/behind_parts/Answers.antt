use Rattle.answers.proofs.Behind.{further}
use Rattle.answers.proofs.lines.behind_parts.Goals as goal

pub loop-preserved : goal.loop-preserved
loop-preserved c = further _ _ _ c.loop.invariant c.behind_first-behind.ensures
