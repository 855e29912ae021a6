use mathlib.Core.Path.{sym, ap, ◌∙◌}
use native.Mathlib.Omega.{arith}
use lib.ListN.{length}
use Rattle.packed.proofs.Nibbles.{run_length, no_whole}
use Rattle.packed.proofs.whole_len.Goals as goal

pub returns-then-w-eq0 : goal.returns-then-w-eq0
returns-then-w-eq0 c = (sym (ap length (no_whole _ _ c.if-w-eq0.true)), omega arith)

pub returns : goal.returns
returns c = (sym (ap length c.whole_start.ensures.left ∙ run_length _ _ _ c.requires), omega arith)
