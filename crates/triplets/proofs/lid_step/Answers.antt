use native.Mathlib.Omega.{arith}
use Rattle.triplets.proofs.StepLaws.{lids_end, lids_more}
use Rattle.triplets.proofs.lid_step.Goals as goal

pub returns-then-end-at-lt3 : goal.returns-then-end-at-lt3
returns-then-end-at-lt3 c = λ s h. lids_end s _ _ c.requires h c.if-end-at-lt3.true

pub returns : goal.returns
returns c = λ s h. (omega (arith, c.requires, c.if-end-at-lt3.false), lids_more s _ _ c.requires h c.if-end-at-lt3.false)
