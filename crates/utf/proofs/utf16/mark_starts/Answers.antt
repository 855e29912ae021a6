use Prim.Native.Nat.{ℕ, ◌*◌}
use mathlib.Core.List.{List}
use mathlib.Core.Path.{ap, ◌∙◌}
use native.Mathlib.Omega.{arith}
use lib.ListN.{set}
use Rattle.utf.specs.Utf16Code.{starts}
use Rattle.utf.proofs.Utf16BlockLaws.{marked}
use Rattle.utf.proofs.utf16.mark_starts.Goals as goal

pub loop-k-init : goal.loop-k-init
unfolding starts
loop-k-init c = (omega arith, c.requires)

pub loop-k-preserved : goal.loop-k-preserved
loop-k-preserved c = (omega arith, ap (λ (l : List ℕ). set l (2 * c.loop-k.k) 1) c.loop-k.invariant.1 ∙ marked 64 c.loop-k.k c.loop-k-test.true)
