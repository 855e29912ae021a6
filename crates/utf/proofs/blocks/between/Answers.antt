use lib.Dec.{leb}
use Rattle.unicode_standard.specs.Unicode.{within}
use Rattle.utf.proofs.Utf8BlockLaws.{and_cond}
use Rattle.utf.proofs.blocks.between.Goals as goal

-- `utf::blocks::between` meets its contract. Assumes nothing.
pub returns : goal.returns
unfolding within
returns c = and_cond (leb c.args.low c.args.x) (leb c.args.x c.args.high)
