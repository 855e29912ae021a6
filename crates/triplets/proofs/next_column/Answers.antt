use Rattle.column.specs.Group.{no_entry}
use Rattle.triplets.proofs.Reaching.{reaching_start, reaching_end, reaching_declare, reaching_column}
use Rattle.triplets.proofs.next_column.Goals as goal

pub loop-end-init : goal.loop-end-init
loop-end-init c = reaching_start _ _ _ c.requires

pub returns-in-End : goal.returns-in-End
returns-in-End c = reaching_end c.loop-end.invariant _ (rw c.in-End.is at c.next_step.ensures)

pub loop-end-preserved : goal.loop-end-preserved
unfolding no_entry
loop-end-preserved c =
    let g = (rw c.in-Declare.is at c.next_step.ensures) in
    rw (c.first.ensures, c.from-place.ensures) (reaching_declare c.loop-end.invariant _ _ _ g)

pub returns-in-Column : goal.returns-in-Column
unfolding no_entry
returns-in-Column c =
    let g = (rw c.in-Column.is at c.next_step.ensures) in
    rw (c.from.ensures, c.lid_at-lid.ensures) (g.0, reaching_column c.loop-end.invariant _ _ g.1)
