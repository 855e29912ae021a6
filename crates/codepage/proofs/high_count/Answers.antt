use mathlib.Core.Path.{ap}
use native.Mathlib.Omega.{arith}
use lib.ListN.{drop_of_length-le}
use Rattle.codepage.specs.Blocks.{highs}
use Rattle.codepage.proofs.Blocks.{highs_next}
use Rattle.codepage.proofs.high_count.Goals as goal

pub loop-b-preserved : goal.loop-b-preserved
loop-b-preserved c =
    omega (arith, c.type_inv.s c.loop-b.b-index, highs_next c.args.s.now c.loop-b.b-index c.loop-b-test.true, c.loop-b.invariant)

pub returns : goal.returns
unfolding highs
returns c = omega (arith, ap highs (drop_of_length-le c.args.s.now c.loop-b-test.false), c.loop-b.invariant)
