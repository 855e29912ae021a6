use borrow.Author.Rules.{rules}
use native.Mathlib.Omega.{arith}
use Rattle.utf.proofs.LikelyBlockLaws.{shown_block}
use Rattle.utf.proofs.likely_blocks.shown_blocks.Goals as goal

pub loop-i-preserved : goal.loop-i-preserved
loop-i-preserved c =
    (omega arith, shown_block _ _ _ c.loop-i.invariant.1 (omega arith) (omega arith) (c.any_unshown.ensures (search rules)))
