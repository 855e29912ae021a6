use Rattle.utf.proofs.LikelyBlockLaws.{no_control}
use Rattle.utf.proofs.likely_blocks.is_control.Goals as goal

-- `utf::likely_blocks::is_control` meets its contract. Assumes nothing.
pub returns : goal.returns
returns c = no_control c.args.d
