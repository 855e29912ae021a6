use Rattle.utf.proofs.Utf16LaneLaws.{counted}
use Rattle.utf.proofs.utf16.count_of.Goals as goal

pub returns : goal.returns
returns c = counted _ _ _ _ _ _ _ _ _ c.between.ensures c.between-2.ensures c.between-3.ensures c.between-4.ensures c.takes_three.ensures _ _ _ c.from.ensures c.pick-n.ensures c.pick.ensures
