use Rattle.triplets.specs.Steps.{ahead}
use Rattle.triplets.proofs.Reaching.{Reaching}
use Rattle.triplets.proofs.next_column.Given as goal

abbrev pub invariant-loop-end : goal.invariant-loop-end
invariant-loop-end l = Reaching l.«data» l.fn.cursor l.initial.environment l.at l.environment

abbrev pub decreases-loop-end : goal.decreases-loop-end
decreases-loop-end l = ahead l.«data» l.at
