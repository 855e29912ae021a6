use Rattle.rules.specs.Walk.{walk_body}
use Rattle.rules.specs.Conversions.{conversions_of}
use Rattle.rules.proofs.Walks.{pieces_of}
use Rattle.rules.proofs.Progress.{Measuring}
use Rattle.row_words.specs.Passes.{columns_named}
use Rattle.piece.specs.Marks.{PlainMarks}
use Rattle.row_words.proofs.text_needed.Given as goal

abbrev pub invariant-loop-i : goal.invariant-loop-i
invariant-loop-i l =
    Measuring (conversions_of l.release) (columns_named l.columns) l.start l.«data» (pieces_of (walk_body (columns_named l.columns) l.start l.«data»)) l.end l.i l.at l.total × PlainMarks l.release l.marks (walk_body (columns_named l.columns) l.start l.«data»)
