use mathlib.Core.Path.{sym, ◌∙◌}
use Rattle.std.proofs.lemmas.List.{take_rest}
use Rattle.piece.proofs.PieceLaws.{null_takes, value_takes}
use Rattle.piece.proofs.piece_need.Goals as goal

pub returns-then-is_null : goal.returns-then-is_null
returns-then-is_null c = sym (null_takes c.args.column c.args.rest.now (sym c.is_null.ensures ∙ c.if-is_null.true))

pub returns : goal.returns
returns c = rw (c.column_need.ensures.0, take_rest c.args.rest.now c.lead-from.result, c.lead-from.ensures.0) (sym (value_takes c.args.column c.args.rest.now (sym c.is_null.ensures ∙ c.if-is_null.false)))
