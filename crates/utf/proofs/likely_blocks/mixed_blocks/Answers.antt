use Rattle.utf.proofs.LikelyBlockLaws.{joined_likely}
use Rattle.utf.proofs.likely_blocks.mixed_blocks.Goals as goal

pub returns : goal.returns
returns c = let part = c.joined_blocks.ensures in joined_likely _ _ _ part.fits part.each part.end
