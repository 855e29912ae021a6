use native.Mathlib.Omega.{arith}
use native.Mathlib.Nat.{mul-le-mul_right}
use borrow.Author.Tests.{le-leb, lt-leb}
use Rattle.rules.specs.Extent.{need}
use Rattle.cell.proofs.extents.counted_need.Goals as goal

-- `cell::extents::counted_need` meets its contract: the test on the way to each `return` decides the definition's. Assumes nothing.
pub returns-then-s-lt2 : goal.returns-then-s-lt2
unfolding need
returns-then-s-lt2 c = (rw (lt-leb 2 _ c.if-s-lt2.true), (omega arith, omega arith))

pub returns : goal.returns
unfolding need
returns c = (rw (le-leb 2 _ c.if-s-lt2.false, c.from.ensures, c.u16_of.ensures), (omega arith, omega (arith, c.from.ensures, mul-le-mul_right c.from.result c.requires)))
