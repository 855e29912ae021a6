use native.Mathlib.Omega.{arith}
use Rattle.std.proofs.Common.{rules}
use mathlib.Core.Path.{ap, sym, ◌∙◌}
use lib.ListN.{length, length-drop}
use Rattle.std.proofs.lemmas.List.{drop_more}
use Rattle.rules.proofs.Progress.{measuring_start, measuring_there, measuring_bound, measuring_step, measuring_end, end_within, rest_is}
use Rattle.piece.proofs.MarkLaws.{plain_more}
use Rattle.piece.proofs.Texts.{texts_are, needed_none, needed_some}
use Rattle.row.proofs.Wholes.{whole_done, whole_ends}
use Rattle.row.proofs.Scales.{listed_bound}
use Rattle.row.proofs.text_needed.Goals as goal

pub loop-i-init : goal.loop-i-init
loop-i-init c = (measuring_start _ _ _ _ _ _ c.requires.start (whole_done _ c.requires.whole), c.requires.marks)

pub piece_length-p-requires : goal.piece_length-p-requires
piece_length-p-requires c =
    record {
      there = measuring_there _ _ _ _ _ _ c.loop-i.invariant.0 _ (drop_more c.args.columns.now c.loop-i.i _ c.loop-i-test.true) _ (rest_is c.args.«data».now c.loop-i.at);
      limit = omega (arith, ap length (rest_is c.args.«data».now c.loop-i.at), length-drop c.loop-i.at c.args.«data».now, c.requires.limit);
    }

pub overflow_add-at : goal.overflow_add-at
overflow_add-at c =
    let m = measuring_step _ _ _ _ _ _ c.loop-i.invariant.0 _ (drop_more c.args.columns.now c.loop-i.i _ c.loop-i-test.true) _ (rest_is c.args.«data».now c.loop-i.at) _ _ c.piece_length-p.ensures.used c.piece_length-p.ensures.len in
    omega (arith, m.going.within, c.requires.limit)

pub overflow_add-total : goal.overflow_add-total
overflow_add-total c =
    let ends = end_within c.args.columns.now c.args.start c.args.«data».now _ _ c.requires.start (whole_done _ c.requires.whole) in
    let bound =
    listed_bound c.args.release c.args.columns.now c.requires.scales c.args.start _ c.args.«data».now
    (search rules) c.requires.start (whole_ends _ c.requires.whole) in
    let m = measuring_bound _ _ _ _ _ _ c.loop-i.invariant.0 _ (drop_more c.args.columns.now c.loop-i.i _ c.loop-i-test.true) _ (rest_is c.args.«data».now c.loop-i.at) _ c.piece_length-p.ensures.len in
    omega (arith, bound, ends, c.requires.limit, c.requires.count)

pub loop-i-preserved : goal.loop-i-preserved
loop-i-preserved c = (
  measuring_step _ _ _ _ _ _ c.loop-i.invariant.0 _ (drop_more c.args.columns.now c.loop-i.i _ c.loop-i-test.true) _ (rest_is c.args.«data».now c.loop-i.at) _ _ c.piece_length-p.ensures.used c.piece_length-p.ensures.len,
  plain_more c.args.release _ _ _ _ _ (whole_done _ c.requires.whole) c.loop-i.invariant.0.going _ (drop_more c.args.columns.now c.loop-i.i _ c.loop-i-test.true) _ (rest_is c.args.«data».now c.loop-i.at) (omega arith) _ _ c.loop-i.invariant.1 _ c.mark.ensures (c.piece_length-p.ensures.plain c.loop-i.at),
)

pub returns-then-total-room : goal.returns-then-total-room
returns-then-total-room c =
    let total = measuring_end _ _ _ _ _ _ c.loop-i.invariant.0 (omega arith) in
    record { needed = needed_none _ _ _ (total ∙ sym (ap length (texts_are c.args.release _))) c.if-total-room.true; marks = c.loop-i.invariant.1 }

pub returns : goal.returns
returns c =
    let total = measuring_end _ _ _ _ _ _ c.loop-i.invariant.0 (omega arith) in
    record { needed = needed_some _ _ _ (total ∙ sym (ap length (texts_are c.args.release _))) c.if-total-room.false; marks = c.loop-i.invariant.1 }
