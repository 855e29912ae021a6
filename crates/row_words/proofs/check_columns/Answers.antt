use native.Mathlib.Omega.{arith}
use mathlib.Core.Bool.{not}
use mathlib.Core.Path.{ap, ◌∙◌}
use Rattle.row_words.proofs.Checking.{checking_bad, checking_step, checking_end}
use Rattle.row_words.proofs.check_columns.Goals as goal

pub returns-then-not-is_column : goal.returns-then-not-is_column
returns-then-not-is_column c = checking_bad c.args.columns.now c.loop-i.invariant (omega arith) _ _ c.words_at-words.ensures c.is_column.result c.is_column.ensures (ap not c.if-not-is_column.true)

pub loop-i-preserved : goal.loop-i-preserved
loop-i-preserved c = checking_step c.args.columns.now c.loop-i.invariant (omega arith) _ _ c.words_at-words.ensures c.is_column.result c.is_column.ensures (ap not c.if-not-is_column.false) c.is_dec_float-dec_float.result c.is_dec_float-dec_float.ensures

pub returns : goal.returns
returns c = c.then_some.ensures ∙ checking_end c.args.columns.now c.loop-i.invariant c.loop-i-test.false (omega arith)
