use Prim.Native.Nat.{◌*◌, ◌-◌, ◌≤◌}
use mathlib.Core.List.{◌++◌}
use mathlib.Core.Path.{◌≡◌}
use lib.ListN.{replicate}
use Rattle.utf.specs.Utf16Code.{starts}
use Rattle.utf.proofs.utf16.mark_starts.Given as goal

abbrev pub invariant-loop-k : goal.invariant-loop-k
invariant-loop-k l = (l.k ≤ 64) × (l.on ≡ starts l.k ++ replicate (2 * (64 - l.k)) 0)
