use mathlib.Core.Path.{refl}
use borrow.Author.Rules.{rules}
use Rattle.codepage.specs.CodePage.{code_point037}
use Rattle.codepage.specs.Small.{code_point_small}
use Rattle.codepage.proofs.Ebcdic037CodePage.code_point.Goals as goal

pub returns : goal.returns
unfolding code_point037
returns c = rw (c.from.ensures, c.args.self.is) (refl, code_point_small c.args.b (search rules))
