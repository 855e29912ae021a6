use native.Mathlib.Omega.{arith}
use Rattle.description_words.proofs.Placing.{none_written}
use Rattle.description_words.proofs.write_columns.Goals as goal

-- `description_words::write_columns` meets its contract: no columns have no words. Assumes nothing.
pub returns-then-total-eq0 : goal.returns-then-total-eq0
returns-then-total-eq0 c =
    let a = c.args in
    let p = c.requires in
    none_written a.«data».now a.words.now (omega (arith, p.total_value, c.if-total-eq0.true))
