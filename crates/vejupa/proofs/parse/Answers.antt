use mathlib.Core.Path.{sym, ◌∙◌}
use native.Mathlib.Omega.{arith}
use Rattle.vejupa.proofs.Described.{refusal_some, taken_is, refused_call, too_long_call, accepting, all_counted, too_few_lem, all_written}
use Rattle.vejupa.proofs.parse.Goals as goal

-- `vejupa::parse` meets its contract: a law for each way out. Assumes nothing.
pub returns-then-data-gt-MAX_QRYDSC : goal.returns-then-data-gt-MAX_QRYDSC
returns-then-data-gt-MAX_QRYDSC c = too_long_call _ _ _ c.if-data-gt-MAX_QRYDSC.true

pub returns-in-Err : goal.returns-in-Err
returns-in-Err c =
    refused_call _ _ _ _ (c.number.ensures ∙ c.in-Err.ensures) (λ z. refusal_some c.in-Err.r (sym c.number.ensures ∙ z))

pub overflow_mul-n : goal.overflow_mul-n
overflow_mul-n c =
    let t = accepting c.args.whole c.args.«data».now (taken_is c.in_default.is c.refusal_of.ensures) in
    record { fits = omega (arith, (all_counted _ _ t c.count_columns-counted.ensures).1) }

pub returns-then-column_words-n : goal.returns-then-column_words-n
returns-then-column_words-n c =
    too_few_lem _ _ _ (accepting _ _ (taken_is c.in_default.is c.refusal_of.ensures)) c.count_columns-counted.ensures c.if-column_words-n.true

pub write_columns-requires : goal.write_columns-requires
write_columns-requires c =
    let t = accepting c.args.whole c.args.«data».now (taken_is c.in_default.is c.refusal_of.ensures) in
    let n = all_counted _ _ t c.count_columns-counted.ensures in
    record { total_value = n.0; total_le_max_columns = n.1; total_in_bounds = omega (arith, c.if-column_words-n.false) }

pub returns : goal.returns
returns c =
    all_written _ _ _ (accepting _ _ (taken_is c.in_default.is c.refusal_of.ensures)) c.count_columns-counted.ensures c.if-column_words-n.false _ c.write_columns.ensures _ c.flag.ensures
