use Prim.Native.Nat.{◌+◌, ◌≤◌}
use mathlib.Core.Path.{◌≡◌}
use lib.ListN.{drop}
use Rattle.codepage.specs.Blocks.{highs}
use Rattle.codepage.proofs.high_count.Given as goal

abbrev pub invariant-loop-b : goal.invariant-loop-b
invariant-loop-b l = (l.k ≤ l.b-index) × (l.k + highs (drop l.b-index l.s) ≡ highs l.s)
