use mathlib.Core.Bool.{false}
use mathlib.Core.Path.{◌≡◌}
use Rattle.utf.specs.LikelyCode.{AllShown}
use Rattle.utf.proofs.likely_blocks.any_unshown.Given as goal

abbrev pub invariant-loop-d : goal.invariant-loop-d
invariant-loop-d l = l.bad ≡ false → AllShown l.s l.d-index
