use Rattle.utf.proofs.LikelyLaws.{tab_or_line_end, no_delete}
use Rattle.utf.proofs.likely.shown.Goals as goal

pub returns-then-b-lt32 : goal.returns-then-b-lt32
returns-then-b-lt32 c = tab_or_line_end _ c.if-b-lt32.true

pub returns : goal.returns
returns c = no_delete _ c.if-b-lt32.false c.requires
