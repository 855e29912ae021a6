use Prim.Native.Nat.{◌-◌}
use lib.ListN.{length}
use Rattle.description_words.proofs.Counting.{CountingInner}
use Rattle.description_words.proofs.count_inner.Given as goal

abbrev pub invariant-loop-kind : goal.invariant-loop-kind
invariant-loop-kind l = CountingInner l.body l.count l.at

abbrev pub decreases-loop-kind : goal.decreases-loop-kind
decreases-loop-kind l = length l.body - l.at
