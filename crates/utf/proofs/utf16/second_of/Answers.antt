use mathlib.Core.Path.{◌∙◌}
use Rattle.utf.proofs.Utf16LaneLaws.{second_byte}
use Rattle.utf.proofs.utf16.second_of.Goals as goal

pub returns : goal.returns
returns c = λ y h. c.pick.ensures ∙ rw (c.takes_three.ensures, c.pick-two.ensures, c.between.ensures) (second_byte y c.args.a c.args.b h)
