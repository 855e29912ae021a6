use mathlib.Core.Path.{◌≡◌, sym, ap, ◌∙◌, refl}
use native.Mathlib.Omega.{arith}
use Rattle.std.proofs.Common.{rules}
use lib.ListN.{length, length-drop}
use Rattle.rules.specs.Walk.{Walk, done, walk_body}
use Rattle.rules.proofs.Walks.{pieces_of}
use Rattle.rules.proofs.Progress.{measuring_start, measuring_there, measuring_bound, measuring_step, measuring_end, rest_is}
use Rattle.piece.proofs.MarkLaws.{plain_more}
use Rattle.piece.specs.Texts.{texts_of}
use Rattle.piece.proofs.Texts.{texts_are, needed_none}
use Rattle.words.proofs.TypeWords.{then_some_is}
use Rattle.row_words.specs.Passes.{columns_named}
use Rattle.row_words.proofs.Named.{named_length, named_at}
use Rattle.row_words.proofs.Outlines.{is_done_lem}
use Rattle.row_words.proofs.Bounds.{ends, named_bound}
use Rattle.row_words.proofs.text_needed.Goals as goal

pub overflow_sub-end : goal.overflow_sub-end
overflow_sub-end c = (ends c.args.release c.args.columns.now c.args.start c.args.«data».now c.args.end c.requires.start c.requires.whole).0

pub overflow_mul-end : goal.overflow_mul-end
overflow_mul-end c = omega (arith, ends c.args.release c.args.columns.now c.args.start c.args.«data».now c.args.end c.requires.start c.requires.whole, c.requires.limit)

pub overflow_add-end : goal.overflow_add-end
overflow_add-end c = omega (arith, ends c.args.release c.args.columns.now c.args.start c.args.«data».now c.args.end c.requires.start c.requires.whole, c.requires.limit, c.requires.count)

pub returns-then-end-start : goal.returns-then-end-start
returns-then-end-start c =
    let bound = named_bound c.args.release c.args.columns.now c.args.start c.args.«data».now c.args.end c.requires.start c.requires.whole (search rules) in
    record { needed = needed_none c.args.room _ (texts_of c.args.release (walk_body (columns_named c.args.columns.now) c.args.start c.args.«data».now)) refl (omega (arith, bound, c.if-end-start.true)); marks = c.requires.marks }

pub loop-i-init : goal.loop-i-init
loop-i-init c = (measuring_start _ _ _ _ _ _ c.requires.start (is_done_lem c.args.end _ c.requires.whole), c.requires.marks)

pub piece_length-p-requires : goal.piece_length-p-requires
piece_length-p-requires c = record { there = measuring_there _ _ _ _ _ _ c.loop-i.invariant.0 c.column-column.result (named_at _ _ (omega arith) c.words_at.ensures c.column-column.ensures) _ (rest_is c.args.«data».now c.loop-i.at); limit = omega (arith, c.requires.limit, c.loop-i.invariant.0.going.within, ap length (rest_is c.args.«data».now c.loop-i.at), length-drop c.loop-i.at c.args.«data».now) }

pub overflow_add-at : goal.overflow_add-at
overflow_add-at c = omega (arith, measuring_there _ _ _ _ _ _ c.loop-i.invariant.0 c.column-column.result (named_at _ _ (omega arith) c.words_at.ensures c.column-column.ensures) _ (rest_is c.args.«data».now c.loop-i.at), c.piece_length-p.ensures.used, c.loop-i.invariant.0.going.within, ap length (rest_is c.args.«data».now c.loop-i.at), length-drop c.loop-i.at c.args.«data».now)

pub overflow_add-total : goal.overflow_add-total
overflow_add-total c =
    let e = ends c.args.release c.args.columns.now c.args.start c.args.«data».now c.args.end c.requires.start c.requires.whole in
    let bound = named_bound c.args.release c.args.columns.now c.args.start c.args.«data».now c.args.end c.requires.start c.requires.whole (search rules) in
    let m = measuring_bound _ _ _ _ _ _ c.loop-i.invariant.0 c.column-column.result (named_at _ _ (omega arith) c.words_at.ensures c.column-column.ensures) _ (rest_is c.args.«data».now c.loop-i.at) _ c.piece_length-p.ensures.len in
    omega (arith, m, bound, e, ap length (texts_are c.args.release (walk_body (columns_named c.args.columns.now) c.args.start c.args.«data».now)), c.requires.count, c.requires.limit)

pub loop-i-preserved : goal.loop-i-preserved
loop-i-preserved c =
    let walked : Walk = walk_body (columns_named c.args.columns.now) c.args.start c.args.«data».now in
    let whole : walked ≡ done (pieces_of walked) c.args.end = is_done_lem c.args.end walked c.requires.whole in
    ((measuring_step _ _ _ _ _ _ c.loop-i.invariant.0 c.column-column.result (named_at _ _ (omega arith) c.words_at.ensures c.column-column.ensures) _ (rest_is c.args.«data».now c.loop-i.at) _ _ c.piece_length-p.ensures.used c.piece_length-p.ensures.len, plain_more c.args.release (columns_named c.args.columns.now) c.args.start c.args.«data».now (pieces_of walked) c.args.end whole c.loop-i.invariant.0.going c.column-column.result (named_at _ _ (omega arith) c.words_at.ensures c.column-column.ensures) _ (rest_is c.args.«data».now c.loop-i.at) (omega (arith, named_length c.args.columns.now)) _ _ c.loop-i.invariant.1 _ c.mark.ensures (c.piece_length-p.ensures.plain c.loop-i.at)))

pub returns : goal.returns
returns c =
    let walked : Walk = walk_body (columns_named c.args.columns.now) c.args.start c.args.«data».now in
    let total : c.loop-i.total ≡ length (texts_of c.args.release walked) = measuring_end _ _ _ _ _ _ c.loop-i.invariant.0 (omega (arith, named_length c.args.columns.now)) ∙ ap length (sym (texts_are c.args.release walked)) in
    record { needed = c.then_some.ensures ∙ then_some_is _ _ ∙ rw total; marks = c.loop-i.invariant.1 }
