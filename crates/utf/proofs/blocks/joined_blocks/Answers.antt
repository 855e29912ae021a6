use native.Mathlib.Omega.{arith}
use Rattle.utf.proofs.Utf8BlockLaws.{each_block}
use Rattle.utf.proofs.blocks.joined_blocks.Goals as goal

pub loop-least-preserved : goal.loop-least-preserved
loop-least-preserved g c =
    (omega arith, omega arith, omega arith, each_block g.T.Succession.After _ _ _ c.loop-least.invariant.0 (omega arith) (omega arith) c.loop-least.invariant.3 (c.any_broken.ensures c.if-any_broken.false))
