use native.Mathlib.Omega.{arith}
use mathlib.Core.Path.{◌∙◌}
use lib.ListN.{length}
use Rattle.triplets.proofs.ReadingLaws.{next_unread, next_some}
use Rattle.triplets.proofs.StepLaws.{end_here, end_after}
use Rattle.triplets.proofs.outer_end.Goals as goal

pub returns : goal.returns
returns c =
    let s = c.args.«data».now in
    let l = c.loop-triplet in
    end_here s l.at l.invariant.0 (next_unread 2 s l.at (length s) c.next_triplet.ensures.value c.in_default.is) ∙ l.invariant.1

pub loop-triplet-preserved : goal.loop-triplet-preserved
loop-triplet-preserved c =
    let s = c.args.«data».now in
    let l = c.loop-triplet in
    let f = next_some 2 s l.at (length s) c.next_triplet.ensures.value l.invariant.0 (omega arith) c.in-Some.is in
    (f.high, end_after f ∙ l.invariant.1)
