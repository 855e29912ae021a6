use mathlib.Core.Path.{sym, ◌∙◌}
use native.Mathlib.Omega.{arith}
use lib.ListN.{length}
use Rattle.rules.specs.Walk.{walk_body}
use Rattle.rules.proofs.Rows.{skip_fits}
use Rattle.row_words.specs.Passes.{columns_named}
use Rattle.piece.specs.Texts.{texts_of}
use Rattle.piece.proofs.MarkLaws.{plain_none}
use Rattle.piece.proofs.Texts.{needed_fits}
use Rattle.row_words.proofs.Telling.{lacking_is, told_short, told_text_lem, told_accepted}
use Rattle.row_words.proofs.decode_row.Goals as goal

pub walk_columns-requires : goal.walk_columns-requires
walk_columns-requires c = record { start = omega (arith, c.skip_of-start.ensures, skip_fits c.args.«data».now); limit = c.requires.limit }

pub returns-in_err-end : goal.returns-in_err-end
returns-in_err-end c = let all_of = told_short c.args.release (columns_named c.args.columns.now) c.args.«data».now c.args.text.now c.args.values.now c.skip_of-start.result c.skip_of-start.ensures c.in_err-end.field-0.0 c.in_err-end.ensures in rw (← lacking_is c.from_residual.result c.in_err-end.field-0.0 c.from_residual.ensures.1) (record { outcome = all_of.0; values = all_of.1.0; text = all_of.1.1 })

pub text_needed-requires : goal.text_needed-requires
text_needed-requires c = record { count = c.requires.count; start = omega (arith, c.skip_of-start.ensures, skip_fits c.args.«data».now); limit = c.requires.limit; whole = sym c.in_ok-end.was ∙ c.walk_columns.ensures; marks = plain_none c.args.release (walk_body (columns_named c.args.columns.now) c.skip_of-start.result c.args.«data».now) }

pub returns-in-Some : goal.returns-in-Some
returns-in-Some c = let all_of = told_text_lem c.args.release (columns_named c.args.columns.now) c.args.«data».now c.args.text.now c.args.values.now c.skip_of-start.result c.skip_of-start.ensures _ (sym c.in_ok-end.was ∙ c.walk_columns.ensures) c.in-Some.needed (sym c.in-Some.is ∙ c.text_needed.ensures.needed) in record { outcome = all_of.0; values = all_of.1.0; text = all_of.1.1 }

pub write_columns-w-requires : goal.write_columns-w-requires
write_columns-w-requires c = record { start = omega (arith, c.skip_of-start.ensures, skip_fits c.args.«data».now); limit = c.requires.limit; whole = (c.in_ok-end.end, sym c.in_ok-end.was ∙ c.walk_columns.ensures); words = c.requires.words; room = needed_fits (length c.args.text.now) (texts_of c.args.release (walk_body (columns_named c.args.columns.now) c.skip_of-start.result c.args.«data».now)) (sym c.in_default.is ∙ c.text_needed.ensures.needed); count = c.requires.count; marks = c.text_needed.ensures.marks }

pub returns : goal.returns
returns c = let all_of = told_accepted c.args.release (columns_named c.args.columns.now) c.args.«data».now c.args.text.now c.args.values.now c.skip_of-start.result c.skip_of-start.ensures _ (sym c.in_ok-end.was ∙ c.walk_columns.ensures) (sym c.in_default.is ∙ c.text_needed.ensures.needed) c.write_columns-w.result.len c.write_columns-w.ensures.count c.write_columns-w.result.replaced c.write_columns-w.ensures.replaced _ _ c.write_columns-w.ensures.values c.write_columns-w.ensures.text in record { outcome = all_of.0; values = all_of.1.0; text = all_of.1.1 }
