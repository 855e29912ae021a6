use borrow.Author.Tests.{ltb-true}
use Rattle.utf.proofs.AsciiLaws.{eight}
use Rattle.utf.proofs.ascii.ascii_8.Goals as goal

pub returns : goal.returns
returns c = λ e. eight _ c.requires (ltb-true _ _ e)
