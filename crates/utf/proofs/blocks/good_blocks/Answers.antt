use Rattle.utf.proofs.Utf8BlockLaws.{joined_good}
use Rattle.utf.proofs.blocks.good_blocks.Goals as goal

pub returns : goal.returns
returns c = let part = c.joined_blocks.ensures in joined_good _ _ _ part.fits part.each part.end
