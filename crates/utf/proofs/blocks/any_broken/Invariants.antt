use mathlib.Core.Bool.{false}
use mathlib.Core.Path.{◌≡◌}
use Rattle.utf.specs.Utf8Blocks.{Each}
use Rattle.utf.proofs.blocks.any_broken.Given as goal

abbrev pub invariant-loop-i : goal.invariant-loop-i
invariant-loop-i g l = l.bad ≡ false → Each g.T.Succession.After l.s l.i
