use native.Mathlib.Omega.{arith}
use Prim.Native.Nat.{◌+◌}
use lib.ListN.{length}
use Rattle.triplets.proofs.Slices.{part_slice}
use Rattle.triplets.proofs.ReadingLaws.{next_none, next_some}
use Rattle.description_words.proofs.Counting.{inner_start, inner_end, inner_more}
use Rattle.description_words.proofs.count_inner.Goals as goal

pub loop-kind-init : goal.loop-kind-init
loop-kind-init c = inner_start c.args.body.now

pub loop-kind-preserved : goal.loop-kind-preserved
loop-kind-preserved c =
    let s = c.args.body.now in
    let l = c.loop-kind in
    let f = next_some 3 s l.at (length s) c.next_triplet.ensures.value l.invariant.high (omega arith) c.in-Some.is in
    inner_more l.invariant _ _ _ f _ (part_slice (l.at + 2) _ s f.low f.high) c.count_sda-count.ensures

pub returns : goal.returns
returns c =
    let s = c.args.body.now in
    let l = c.loop-kind in
    inner_end l.invariant (next_none 3 s l.at (length s) c.next_triplet.ensures.value c.in_default.is)
