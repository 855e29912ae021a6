use Rattle.rules.specs.Walk.{walk_body}
use Rattle.rules.proofs.Walks.{pieces_of}
use Rattle.row_words.specs.Passes.{columns_named}
use Rattle.row_words.proofs.Outlines.{end_of}
use Rattle.row_words.proofs.Putting.{Putting}
use Rattle.row_words.proofs.write_columns.Given as goal

abbrev pub invariant-loop-i : goal.invariant-loop-i
invariant-loop-i l =
    Putting l.release (columns_named l.columns) l.start l.«data» (pieces_of (walk_body (columns_named l.columns) l.start l.«data»)) (end_of (walk_body (columns_named l.columns) l.start l.«data»)) l.initial.text l.initial.values l.i l.at l.next l.replaced l.text l.values
