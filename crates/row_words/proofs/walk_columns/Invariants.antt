use Rattle.rules.proofs.Progress.{Walking}
use Rattle.row_words.specs.Passes.{columns_named}
use Rattle.row_words.proofs.walk_columns.Given as goal

abbrev pub invariant-loop-i : goal.invariant-loop-i
invariant-loop-i l = Walking (columns_named l.columns) l.start l.«data» l.i l.at
