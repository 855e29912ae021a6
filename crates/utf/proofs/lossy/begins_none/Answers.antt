use Rattle.utf.proofs.LossyWriting.{none_begins}
use Rattle.utf.proofs.lossy.begins_none.Goals as goal

pub returns : goal.returns
returns c = none_begins _ _ c.between.ensures
