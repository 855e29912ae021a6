use Rattle.std.proofs.Common.{rules}
use native.Mathlib.Omega.{arith}
use Rattle.std.proofs.Common.{rules}
use Prim.Native.Nat.{ℕ, ◌≤◌}
use mathlib.Core.Path.{◌≡◌, refl, ap, sym, subst, ◌∙◌}
use mathlib.Core.List.{List}
use lib.ListN.{length, length-drop}
use Rattle.std.proofs.lemmas.List.{drop_more}
use Rattle.rules.specs.Walk.{walk_body}
use Rattle.rules.specs.Row.{row_texts, answer_of, text_after}
use Rattle.rules.specs.Conversions.{conversions_of}
use Rattle.rules.proofs.Walks.{pieces_of}
use Rattle.rules.proofs.Progress.{walking_start, walking_step, walking_short, placing_there, placing_room, placing_within, rest_is}
use Rattle.rules.proofs.Replaced.{placing_few}
use Rattle.piece.specs.Marks.{mark_at, PlainMarks}
use Rattle.piece.proofs.MarkLaws.{plain_none, plain_here}
use Rattle.piece.proofs.Texts.{texts_are, needed_more, needed_fits}
use Rattle.row.proofs.Wholes.{none_left, whole_is, whole_walk, decided_short, decided_lacking}
use Rattle.row.proofs.Scales.{listed_bound}
use Rattle.row.proofs.Filling.{filling_start, filling_step, filling_end}
use Rattle.types.specs.Places.{blank_value}
use Rattle.row.proofs.decode_row_body.Goals as goal
use Rattle.row.proofs.decode_row_body.Goals.{then-room-end+in_default, else-room-end}

pub loop-column-init : goal.loop-column-init
loop-column-init c = walking_start _ _ _ c.requires.start

pub returns-then-rest-n : goal.returns-then-rest-n
unfolding answer_of text_after
returns-then-rest-n c =
    let w = walking_short _ _ _ c.loop-column.invariant _ (drop_more c.args.columns.now c.loop-column.column-index _ c.loop-column-test.true) _ (rest_is c.args.«data».now c.loop-column.end) (rw c.piece_need-n.ensures at c.if-rest-n.true) _ _ c.shortage.ensures in
    rw (decided_short c.args.release _ _ _ _ w, c.into.ensures) (record { answer = refl; text = refl })

pub loop-column-preserved : goal.loop-column-preserved
loop-column-preserved c = walking_step _ _ _ c.loop-column.invariant _ (drop_more c.args.columns.now c.loop-column.column-index _ c.loop-column-test.true) _ (rest_is c.args.«data».now c.loop-column.end) _ c.piece_need-n.ensures c.if-rest-n.false

pub text_needed-requires : goal.text_needed-requires
text_needed-requires c =
    record { count = c.requires.count; scales = c.requires.scales; start = c.requires.start; limit = c.requires.limit; whole = (c.loop-column.end, (whole_walk c.args.columns.now c.args.start c.args.«data».now c.loop-column.invariant (omega arith))); marks = plain_none c.args.release _ }

pub returns-in-Some : goal.returns-in-Some
unfolding answer_of text_after
returns-in-Some c =
    let m = needed_more (length c.args.text.now) c.in-Some.needed _ (sym c.in-Some.is ∙ c.text_needed.ensures.needed) in
    let n : c.in-Some.needed ≡ length (row_texts (conversions_of c.args.release) (pieces_of (walk_body c.args.columns.now c.args.start c.args.«data».now))) = m.1 ∙ ap length (texts_are c.args.release _) in
    rw (decided_lacking c.args.release _ _ _ c.args.text.now (whole_is (whole_walk c.args.columns.now c.args.start c.args.«data».now c.loop-column.invariant (omega arith))) n (omega (arith, m.0, m.1))) (record { answer = refl; text = refl })

pub loop-k-init : goal.loop-k-init
unfolding blank_value
loop-k-init c =
    let whole = (whole_walk c.args.columns.now c.args.start c.args.«data».now c.loop-column.invariant (omega arith)) in
    let texts = ap length (texts_are c.args.release (walk_body c.args.columns.now c.args.start c.args.«data».now)) in
    let bound =
    listed_bound c.args.release c.args.columns.now c.requires.scales c.args.start c.loop-column.end c.args.«data».now
    (search rules) c.requires.start whole in
    let fits : length (row_texts (conversions_of c.args.release) (pieces_of (walk_body c.args.columns.now c.args.start c.args.«data».now))) ≤ length c.args.text.now =
    elim c.if-room-end.branch [
      | then-room-end+in_default w ↦ omega (arith, texts, needed_fits (length c.args.text.now) _ (sym (none_left w.text_needed.result w.in_default.not-Some) ∙ w.text_needed.ensures.needed))
      | else-room-end w ↦ omega (arith, bound, w.if-room-end.false)
    ] in
    filling_start _ _ _ _ _ _ c.requires.start (whole_is whole) fits _ (search rules)

pub piece_write-p-requires : goal.piece_write-p-requires
piece_write-p-requires c =
    let p = c.loop-k.invariant.placing in
    let marked : PlainMarks c.args.release c.if-room-end.marks (walk_body c.args.columns.now c.args.start c.args.«data».now) =
    elim c.if-room-end.branch [
      | then-room-end+in_default w ↦ subst (λ (m : List ℕ). PlainMarks c.args.release m (walk_body c.args.columns.now c.args.start c.args.«data».now)) (sym w.marks-is) w.text_needed.ensures.marks
      | else-room-end w ↦ subst (λ (m : List ℕ). PlainMarks c.args.release m (walk_body c.args.columns.now c.args.start c.args.«data».now)) (sym w.marks-is) (plain_none c.args.release _)
    ] in
    record {
      there = placing_there _ _ _ _ _ _ _ p _ (drop_more c.args.columns.now c.loop-k.k _ c.loop-k-test.true) _ (rest_is c.args.«data».now c.loop-k.at);
      limit = omega (arith, ap length (rest_is c.args.«data».now c.loop-k.at), length-drop c.loop-k.at c.args.«data».now, p.going.within, c.requires.limit);
      room = placing_room _ _ _ _ _ _ _ p _ (drop_more c.args.columns.now c.loop-k.k _ c.loop-k-test.true) _ (rest_is c.args.«data».now c.loop-k.at);
      plain = (
        omega (arith, c.requires.count),
        λ h. plain_here c.args.release _ _ _ _ _ c.loop-k.invariant.whole p.going _ (drop_more c.args.columns.now c.loop-k.k _ c.loop-k-test.true) _ (rest_is c.args.«data».now c.loop-k.at) (omega arith) _ marked (omega (arith, c.requires.count)) (mark_at c.if-room-end.marks c.loop-k.k) refl h,
      );
    }

pub overflow_add-at : goal.overflow_add-at
overflow_add-at c =
    let w = c.piece_write-p.ensures in
    let f = filling_step _ _ _ _ _ _ c.loop-k.invariant _ (drop_more c.args.columns.now c.loop-k.k _ c.loop-k-test.true) _ (rest_is c.args.«data».now c.loop-k.at) (omega (arith, c.requires.count)) _ w.place _ _ _ w.used w.count w.replaced _ w.bytes in
    omega (arith, f.placing.going.within, c.requires.limit)

pub overflow_add-replaced : goal.overflow_add-replaced
overflow_add-replaced c =
    let p = c.loop-k.invariant.placing in
    let w = c.piece_write-p.ensures in
    let h = placing_within _ _ _ _ _ _ _ p _ (drop_more c.args.columns.now c.loop-k.k _ c.loop-k-test.true) _ (rest_is c.args.«data».now c.loop-k.at) _ w.count in
    let few = placing_few c.args.release _ _ _ _ _ _ p _ _ _ _ w.count w.replaced in
    omega (arith, h, few, c.well_formed.1.1.1.1.0.0)

pub loop-k-preserved : goal.loop-k-preserved
loop-k-preserved c = let w = c.piece_write-p.ensures in filling_step _ _ _ _ _ _ c.loop-k.invariant _ (drop_more c.args.columns.now c.loop-k.k _ c.loop-k-test.true) _ (rest_is c.args.«data».now c.loop-k.at) (omega (arith, c.requires.count)) _ w.place _ _ _ w.used w.count w.replaced _ w.bytes

pub returns : goal.returns
unfolding answer_of text_after
returns c =
    let f = c.loop-k.invariant in
    let e = filling_end _ _ _ _ _ _ f (omega arith) in
    rw (f.decided, e.0, e.1, e.3) (record { answer = refl; text = e.2 })
