use Prim.Native.Nat.{◌-◌}
use lib.ListN.{length}
use Rattle.description_words.proofs.Counting.{Counting}
use Rattle.description_words.proofs.count_columns.Given as goal

abbrev pub invariant-loop-count : goal.invariant-loop-count
invariant-loop-count l = Counting l.«data» l.count l.at l.pending

abbrev pub decreases-loop-count : goal.decreases-loop-count
decreases-loop-count l = length l.«data» - l.at
