use mathlib.Core.Path.{sym, ◌∙◌}
use borrow.Author.Tests.{eqb-true}
use Rattle.description_words.proofs.Counting.{group_empty, group_lids, group_inner}
use Rattle.description_words.proofs.count_group.Goals as goal

-- `description_words::count_group` meets its contract: a law for each way out. Assumes nothing.
pub returns-then-is_empty : goal.returns-then-is_empty
returns-then-is_empty c = group_empty c.args.body.now (eqb-true _ _ (sym c.is_empty.ensures ∙ c.if-is_empty.true))

pub returns-then-body : goal.returns-then-body
returns-then-body c = group_lids c.args.body.now c.if-body.true

pub returns : goal.returns
returns c = group_inner c.args.body.now _ c.count_inner.ensures c.if-body.false
