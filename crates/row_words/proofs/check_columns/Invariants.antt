use Rattle.row_words.proofs.Checking.{Checking}
use Rattle.row_words.proofs.check_columns.Given as goal

abbrev pub invariant-loop-i : goal.invariant-loop-i
invariant-loop-i l = Checking l.columns l.dec_float l.i
