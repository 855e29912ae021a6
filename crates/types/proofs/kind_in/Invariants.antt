use mathlib.Core.Path.{◌≡◌}
use lib.ListN.{drop}
use Rattle.types.specs.Kinds.{kind_in}
use Rattle.types.proofs.kind_in.Given as goal

abbrev pub invariant-loop-i : goal.invariant-loop-i
invariant-loop-i l = kind_in (drop l.i l.fn.table) l.base ≡ kind_in l.fn.table l.base
