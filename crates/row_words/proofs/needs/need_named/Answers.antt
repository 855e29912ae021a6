use mathlib.Core.Path.{sym}
use Rattle.std.proofs.lemmas.List.{take_rest}
use Rattle.words.specs.Reading.{column_named}
use Rattle.piece.proofs.PieceLaws.{null_takes, value_takes}
use Rattle.row_words.proofs.Indicators.{null_named, lead_named}
use Rattle.row_words.proofs.needs.need_named.Goals as goal

pub returns-then-is_null : goal.returns-then-is_null
returns-then-is_null c = sym (null_takes (column_named c.args.words.first c.args.words.second) c.args.rest.now (null_named c.args.words.first c.args.words.second _ c.is_nullable-nullable.ensures c.args.rest.now _ _ c.is_null.ensures c.if-is_null.true))

pub returns : goal.returns
returns c = rw (c.value_need.ensures.0, take_rest c.args.rest.now c.lead-from.result, lead_named c.args.words.first c.args.words.second _ c.is_nullable-nullable.ensures _ c.lead-from.ensures.0) (sym (value_takes (column_named c.args.words.first c.args.words.second) c.args.rest.now (null_named c.args.words.first c.args.words.second _ c.is_nullable-nullable.ensures c.args.rest.now _ _ c.is_null.ensures c.if-is_null.false)))
