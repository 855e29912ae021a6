use Rattle.triplets.specs.Steps.{ahead}
use Rattle.description_words.proofs.Placing.{Placing}
use Rattle.description_words.proofs.write_all.Given as goal

abbrev pub invariant-loop-next : goal.invariant-loop-next
invariant-loop-next l = Placing l.«data» l.initial.words l.words l.count l.environment l.cursor

abbrev pub decreases-loop-next : goal.decreases-loop-next
decreases-loop-next l = ahead l.«data» l.cursor
