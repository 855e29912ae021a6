use native.Mathlib.Omega.{arith}
use Prim.Native.Nat.{◌+◌}
use lib.ListN.{length}
use Rattle.triplets.proofs.Slices.{part_slice}
use Rattle.triplets.proofs.ReadingLaws.{next_none, next_unread, next_some}
use Rattle.description_words.proofs.Counting.{counting_start, counting_end, counting_silent, counting_more}
use Rattle.description_words.proofs.count_columns.Goals as goal

pub loop-count-init : goal.loop-count-init
loop-count-init c = counting_start c.args.«data».now

pub returns-in_default : goal.returns-in_default
returns-in_default c =
    let s = c.args.«data».now in
    let l = c.loop-count in
    let n = c.next_triplet.ensures.value in
    let t = c.in_default.is in
    counting_end l.invariant (next_none 2 s l.at (length s) n t) (next_unread 2 s l.at (length s) n t)

pub loop-count-preserved-in-112 : goal.loop-count-preserved-in-112
loop-count-preserved-in-112 c =
    let s = c.args.«data».now in
    let l = c.loop-count in
    let f = next_some 2 s l.at (length s) c.next_triplet.ensures.value l.invariant.within (omega arith) c.in-Some.is in
    rw c.pending_after-pending.ensures
    (counting_more l.invariant _ _ _ f _ (part_slice (l.at + 2) _ s f.low f.high) c.count_triplet-count.ensures)

pub loop-count-preserved : goal.loop-count-preserved
loop-count-preserved c =
    let s = c.args.«data».now in
    let l = c.loop-count in
    let f = next_some 2 s l.at (length s) c.next_triplet.ensures.value l.invariant.within (omega arith) c.in-Some.is in
    counting_silent l.invariant _ _ f c.in_default-kind.in_default-kind-own.rest.1
