use mathlib.Core.Path.{sym, ◌∙◌}
use native.Mathlib.Omega.{arith}
use Rattle.codepage.proofs.Blocks.{small_length}
use Rattle.codepage.proofs.small_len.Goals as goal

pub returns : goal.returns
returns c = (c.from.ensures ∙ sym (small_length c.args.v c.requires), omega (arith, c.from.ensures, c.requires))
