use mathlib.Core.Path.{◌≡◌}
use lib.ListN.{length, take}
use Rattle.codepage.specs.Pairs.{pairs037}
use Rattle.codepage.proofs.pairs_of.Given as goal

abbrev pub invariant-loop-i : goal.invariant-loop-i
invariant-loop-i l = (length l.pairs ≡ 256) × (take l.i l.pairs ≡ take l.i pairs037)
