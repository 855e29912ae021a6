use mathlib.Core.Path.{◌≡◌}
use Prim.Native.Nat.{◌-◌, ◌≤◌}
use lib.ListN.{length}
use Rattle.triplets.specs.Steps.{end_from}
use Rattle.triplets.proofs.outer_end.Given as goal

abbrev pub invariant-loop-triplet : goal.invariant-loop-triplet
invariant-loop-triplet l = (l.at ≤ length l.«data») × (end_from l.«data» l.at ≡ end_from l.«data» l.start)

abbrev pub decreases-loop-triplet : goal.decreases-loop-triplet
decreases-loop-triplet l = length l.«data» - l.at
