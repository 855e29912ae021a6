use Prim.Native.Nat.{◌-◌, ◌≤◌, ◌<◌}
use lib.ListN.{length}
use Rattle.utf.specs.Utf8Blocks.{Each, led}
use Rattle.utf.proofs.blocks.joined_blocks.Given as goal

abbrev pub invariant-loop-least : goal.invariant-loop-least
invariant-loop-least g l = (3 ≤ l.i) × (l.i ≤ length l.s) × (0 < l.k) × Each g.T.Succession.After (led l.s) l.i

abbrev pub decreases-loop-least : goal.decreases-loop-least
decreases-loop-least g l = length l.s - l.i
