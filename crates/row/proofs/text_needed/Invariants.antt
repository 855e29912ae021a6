use Rattle.rules.specs.Walk.{walk_body}
use Rattle.rules.specs.Conversions.{conversions_of}
use Rattle.rules.proofs.Walks.{pieces_of}
use Rattle.rules.proofs.Progress.{Measuring}
use Rattle.piece.specs.Marks.{PlainMarks}
use Rattle.row.proofs.Wholes.{end_of}
use Rattle.row.proofs.text_needed.Given as goal

abbrev pub invariant-loop-i : goal.invariant-loop-i
invariant-loop-i l =
    Measuring (conversions_of l.release) l.columns l.start l.«data» (pieces_of (walk_body l.columns l.start l.«data»)) (end_of (walk_body l.columns l.start l.«data»)) l.i l.at l.total × PlainMarks l.release l.marks (walk_body l.columns l.start l.«data»)
