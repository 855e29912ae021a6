use Rattle.triplets.specs.Steps.{ahead}
use Rattle.qrydsc.proofs.Progress.{Progress}
use Rattle.qrydsc.proofs.parse.Given as goal

abbrev pub invariant-loop-end : goal.invariant-loop-end
invariant-loop-end l = Progress l.«data» l.columns l.count l.environment l.cursor

abbrev pub decreases-loop-end : goal.decreases-loop-end
decreases-loop-end l = ahead l.«data» l.cursor
