use mathlib.Core.Path.{◌∙◌}
use Rattle.utf.proofs.Utf16LaneLaws.{first_byte}
use Rattle.utf.proofs.utf16.first_of.Goals as goal

pub returns : goal.returns
returns c = c.pick.ensures ∙ rw (c.takes_three.ensures, c.pick-high.ensures, c.between-2.ensures, c.pick-low.ensures, c.between.ensures, c.pick-two.ensures) (first_byte c.args.y c.args.a c.args.b)
