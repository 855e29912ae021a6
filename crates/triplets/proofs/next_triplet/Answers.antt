use borrow.Author.Tests.{le-leb, lt-leb}
use native.Mathlib.Omega.{arith}
use lib.Seq.{length-slice}
use Rattle.triplets.specs.Steps.{next_of}
use Rattle.triplets.proofs.Slices.{get_d_slice}
use Rattle.triplets.proofs.StepLaws.{first_byte}
use Rattle.triplets.proofs.next_triplet.Goals as goal

pub returns-then-remain-least : goal.returns-then-remain-least
unfolding next_of
returns-then-remain-least c =
    let a = c.args in
    let s = a.«data».now in
    let p = c.requires in
    record { value = rw (length-slice a.at a.end s p.at_le_end.1, lt-leb _ _ c.if-remain-least.true); within = tt }

pub returns-then-size-lt2 : goal.returns-then-size-lt2
unfolding next_of
returns-then-size-lt2 c =
    let a = c.args in
    let s = a.«data».now in
    let p = c.requires in
    let e = c.from-size.ensures in
    record { value = rw (length-slice a.at a.end s p.at_le_end.1, first_byte s a.at a.end p.at_le_end.1 (omega (arith, p)), le-leb _ _ c.if-remain-least.false, lt-leb _ _ (rw e at c.if-size-lt2.true)); within = tt }

pub returns-then-remain-size : goal.returns-then-remain-size
unfolding next_of
returns-then-remain-size c =
    let a = c.args in
    let s = a.«data».now in
    let p = c.requires in
    let e = c.from-size.ensures in
    record { value = rw (length-slice a.at a.end s p.at_le_end.1, first_byte s a.at a.end p.at_le_end.1 (omega (arith, p)), le-leb _ _ c.if-remain-least.false, le-leb _ _ (rw e at c.if-size-lt2.false), lt-leb _ _ (rw e at c.if-remain-size.true)); within = tt }

pub returns : goal.returns
unfolding next_of
returns c =
    let a = c.args in
    let s = a.«data».now in
    let p = c.requires in
    let e = c.from-size.ensures in
    record { value = rw (e, length-slice a.at a.end s p.at_le_end.1, first_byte s a.at a.end p.at_le_end.1 (omega (arith, p)), get_d_slice a.at a.end 1 s 0 (omega (arith, p)), le-leb _ _ c.if-remain-least.false, le-leb _ _ (rw e at c.if-size-lt2.false), le-leb _ _ (rw e at c.if-remain-size.false)); within = (omega (arith, c.if-size-lt2.false), omega (arith, p, c.if-remain-size.false)) }
