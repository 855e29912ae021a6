use mathlib.Core.Path.{◌≡◌, refl, ap}
use native.Mathlib.Omega.{arith}
use lib.ListN.{length, length-drop}
use Rattle.rules.specs.Walk.{Walk, done, walk_body}
use Rattle.rules.specs.Row.{accept, row_texts, body_decision, text_after}
use Rattle.rules.specs.Conversions.{conversions_of}
use Rattle.rules.proofs.Walks.{pieces_of}
use Rattle.rules.proofs.Progress.{placing_there, placing_room, placing_within, rest_is}
use Rattle.rules.proofs.Replaced.{placing_few}
use Rattle.row_words.specs.Passes.{columns_named}
use Rattle.piece.specs.Marks.{mark_at}
use Rattle.piece.specs.Texts.{texts_of}
use Rattle.piece.proofs.MarkLaws.{plain_here}
use Rattle.piece.proofs.Texts.{texts_are, replaced_are}
use Rattle.row_words.proofs.Named.{named_length, named_at}
use Rattle.row_words.proofs.Outlines.{end_of, done_ends, is_done_lem, decided_accepted}
use Rattle.row_words.proofs.Putting.{putting_start, putting_step, putting_end, as_many}
use Rattle.row_words.proofs.write_columns.Goals as goal

pub loop-i-init : goal.loop-i-init
loop-i-init c =
    let walked : Walk = walk_body (columns_named c.args.columns.now) c.args.start c.args.«data».now in
    let whole : walked ≡ done (pieces_of walked) (end_of walked) = is_done_lem (end_of walked) walked (done_ends walked c.requires.whole) in
    let texts : texts_of c.args.release walked ≡ row_texts (conversions_of c.args.release) (pieces_of walked) = texts_are c.args.release walked in
    (putting_start _ _ _ _ _ _ _ _ c.requires.start whole (rw texts at c.requires.room))

pub put_column-p-requires : goal.put_column-p-requires
put_column-p-requires c =
    let walked : Walk = walk_body (columns_named c.args.columns.now) c.args.start c.args.«data».now in
    let whole : walked ≡ done (pieces_of walked) (end_of walked) = is_done_lem (end_of walked) walked (done_ends walked c.requires.whole) in record { there = placing_there _ _ _ _ _ _ _ c.loop-i.invariant.placing _ (named_at _ _ (omega arith) c.words_at.ensures refl) _ (rest_is c.args.«data».now c.loop-i.at); limit = omega (arith, c.requires.limit, c.loop-i.invariant.placing.going.within, ap length (rest_is c.args.«data».now c.loop-i.at), length-drop c.loop-i.at c.args.«data».now); room = placing_room _ _ _ _ _ _ _ c.loop-i.invariant.placing _ (named_at _ _ (omega arith) c.words_at.ensures refl) _ (rest_is c.args.«data».now c.loop-i.at); words = omega (arith, c.requires.words, as_many _ _ _ _ _ _ _ _ c.loop-i.invariant (omega (arith, c.requires.words))); plain = (omega (arith, c.requires.count), λ t. plain_here c.args.release (columns_named c.args.columns.now) c.args.start c.args.«data».now (pieces_of walked) (end_of walked) whole c.loop-i.invariant.placing.going _ (named_at _ _ (omega arith) c.words_at.ensures refl) _ (rest_is c.args.«data».now c.loop-i.at) (omega (arith, named_length c.args.columns.now)) c.args.marks.now c.requires.marks (omega (arith, c.requires.count)) (mark_at c.args.marks.now c.loop-i.i) refl t) }

pub overflow_add-at : goal.overflow_add-at
overflow_add-at c = omega (arith, c.requires.limit, placing_there _ _ _ _ _ _ _ c.loop-i.invariant.placing _ (named_at _ _ (omega arith) c.words_at.ensures refl) _ (rest_is c.args.«data».now c.loop-i.at), c.put_column-p.ensures.used, c.loop-i.invariant.placing.going.within, ap length (rest_is c.args.«data».now c.loop-i.at), length-drop c.loop-i.at c.args.«data».now)

pub overflow_add-replaced : goal.overflow_add-replaced
overflow_add-replaced c = omega (arith, c.well_formed, placing_within _ _ _ _ _ _ _ c.loop-i.invariant.placing _ (named_at _ _ (omega arith) c.words_at.ensures refl) _ (rest_is c.args.«data».now c.loop-i.at) _ c.put_column-p.ensures.count, placing_few c.args.release _ _ _ _ _ _ c.loop-i.invariant.placing _ _ _ _ c.put_column-p.ensures.count c.put_column-p.ensures.replaced)

pub loop-i-preserved : goal.loop-i-preserved
loop-i-preserved c = ((rw c.put_column-p.ensures.values (putting_step _ _ _ _ _ _ _ _ c.loop-i.invariant _ (named_at _ _ (omega arith) c.words_at.ensures refl) _ (rest_is c.args.«data».now c.loop-i.at) _ _ _ c.put_column-p.ensures.used c.put_column-p.ensures.count c.put_column-p.ensures.replaced _ c.put_column-p.ensures.bytes (omega (arith, c.requires.words)) _ refl)))

pub returns : goal.returns
unfolding text_after
returns c =
    let walked : Walk = walk_body (columns_named c.args.columns.now) c.args.start c.args.«data».now in
    let texts : texts_of c.args.release walked ≡ row_texts (conversions_of c.args.release) (pieces_of walked) = texts_are c.args.release walked in
    let decided : body_decision (conversions_of c.args.release) (columns_named c.args.columns.now) c.args.start c.args.«data».now c.args.text.now ≡ accept (pieces_of walked) (end_of walked) = decided_accepted c.args.release (columns_named c.args.columns.now) c.args.start c.args.«data».now c.args.text.now (end_of walked) (done_ends walked c.requires.whole) c.requires.room in
    let p = putting_end _ _ _ _ _ _ _ _ c.loop-i.invariant (omega (arith, named_length c.args.columns.now)) in rw (texts, replaced_are _ _, decided) (record { count = p.sum; values = p.words_are; text = p.texts; replaced = p.counted })
