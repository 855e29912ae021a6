use Rattle.rules.proofs.Progress.{Walking}
use Rattle.row.proofs.Filling.{Filling}
use Rattle.row.proofs.decode_row_body.Given as goal

abbrev pub invariant-loop-column : goal.invariant-loop-column
invariant-loop-column l = Walking l.columns l.start l.«data» l.column-index l.end

abbrev pub invariant-loop-k : goal.invariant-loop-k
invariant-loop-k l = Filling l.release l.columns l.start l.«data» l.end l.initial.text l.places l.k l.at l.next l.replaced l.text
