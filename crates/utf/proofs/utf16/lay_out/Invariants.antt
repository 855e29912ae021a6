use Prim.Native.Nat.{◌≤◌}
use mathlib.Core.Path.{◌≡◌}
use lib.ListN.{length}
use Rattle.utf.specs.Utf16Code.{Laid}
use Rattle.utf.proofs.utf16.lay_out.Given as goal

abbrev pub invariant-loop-i : goal.invariant-loop-i
invariant-loop-i l = (l.i ≤ 128) × ((length l.first ≡ 128) × ((length l.second ≡ 128) × ((length l.count ≡ 128) × Laid l.s l.first l.second l.count l.i)))
