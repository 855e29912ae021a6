use Rattle.unicode_standard.specs.Unicode.{utf8}
use Rattle.utf.proofs.lossy.write_replacement.Goals as goal

pub returns : goal.returns
unfolding utf8
returns c = c.copy.ensures.bytes
