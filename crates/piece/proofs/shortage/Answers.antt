use mathlib.Core.Path.{sym, ◌∙◌}
use native.Mathlib.Omega.{arith}
use lib.ListN.{length}
use borrow.Author.Tests.{eqb-true, eqb-false}
use Rattle.std.proofs.lemmas.List.{take_rest}
use Rattle.piece.proofs.PieceLaws.{plain_short, none_short, some_short}
use Rattle.piece.proofs.shortage.Goals as goal

pub returns-then-not-column : goal.returns-then-not-column
returns-then-not-column c = rw c.column_need.ensures.0 (plain_short c.args.column c.if-not-column.true c.args.rest.now c.args.offset)

pub returns-then-is_empty : goal.returns-then-is_empty
returns-then-is_empty c = none_short c.args.column c.if-not-column.false c.args.offset c.args.rest.now (eqb-true _ _ (sym c.is_empty.ensures ∙ c.if-is_empty.true))

pub returns : goal.returns
returns c = rw (c.column_need-2.ensures.0, take_rest c.args.rest.now 1) (some_short c.args.column c.if-not-column.false c.args.offset c.args.rest.now (omega (arith, eqb-false (length c.args.rest.now) 0 (sym c.is_empty.ensures ∙ c.if-is_empty.false))))
