use borrow.Author.Rules.{rules}
use native.Mathlib.Omega.{arith}
use Prim.Native.Nat.{◌+◌}
use lib.ListN.{length}
use Rattle.triplets.proofs.Slices.{part_slice}
use Rattle.triplets.proofs.ReadingLaws.{next_none, next_unread, next_some}
use Rattle.triplets.proofs.StepLaws.{end_here, outer_end, outer_empty, outer_column, outer_declare, outer_group, outer_mdd, outer_other}
use Rattle.triplets.proofs.outer_step.Goals as goal

pub returns-in_default : goal.returns-in_default
returns-in_default c =
    let a = c.args in
    let s = a.«data».now in
    let n = c.next_triplet.ensures.value in
    let t = c.in_default.is in
    (outer_end s a.at a.pending (next_none 2 s a.at (length s) n t), end_here s a.at c.requires (next_unread 2 s a.at (length s) n t))

pub returns-then-start-end : goal.returns-then-start-end
returns-then-start-end c =
    let a = c.args in
    let s = a.«data».now in
    let f = next_some 2 s a.at (length s) c.next_triplet.ensures.value c.requires (omega arith) c.in-Some.is in
    outer_empty s a.at a.pending _ _ f c.in-112.is c.if-start-end.true

pub returns-in_default-pending : goal.returns-in_default-pending
returns-in_default-pending c =
    let a = c.args in
    let s = a.«data».now in
    let f = next_some 2 s a.at (length s) c.next_triplet.ensures.value c.requires (omega arith) c.in-Some.is in
    let d = c.if-start-end.false in
    ((omega (arith, f.low), f.high), rw c.in_default-pending.is (outer_column s a.at _ _ f c.in-112.is d))

pub returns-in-Some-pending : goal.returns-in-Some-pending
returns-in-Some-pending c =
    let a = c.args in
    let s = a.«data».now in
    let f = next_some 2 s a.at (length s) c.next_triplet.ensures.value c.requires (omega arith) c.in-Some.is in (
      omega (arith, c.type_inv.«data» (a.at + 2)),
      rw (c.in-Some-pending.is, c.parse_environmental_sda-entry.ensures, part_slice (a.at + 2) _ s f.low f.high)
          (outer_declare s a.at _ _ f c.in-112.is c.if-start-end.false _),
    )

pub returns-in-118 : goal.returns-in-118
returns-in-118 c =
    let a = c.args in
    let s = a.«data».now in
    let f = next_some 2 s a.at (length s) c.next_triplet.ensures.value c.requires (omega arith) c.in-Some.is in
    rw c.group_at.ensures (outer_group s a.at a.pending _ _ f c.in-118.is)

pub returns-in-120 : goal.returns-in-120
returns-in-120 c =
    let a = c.args in
    let s = a.«data».now in
    let f = next_some 2 s a.at (length s) c.next_triplet.ensures.value c.requires (omega arith) c.in-Some.is in
    rw (c.pending_of.ensures, part_slice (a.at + 2) _ s f.low f.high)
    (outer_mdd s a.at a.pending _ _ f c.in-120.is)

pub returns-in_default-kind : goal.returns-in_default-kind
returns-in_default-kind c =
    let a = c.args in
    let s = a.«data».now in
    let f = next_some 2 s a.at (length s) c.next_triplet.ensures.value c.requires (omega arith) c.in-Some.is in
    outer_other s a.at a.pending _ _ f (search rules) (search rules) (search rules)
