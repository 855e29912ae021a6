use mathlib.Core.Path.{◌≡◌}
use native.Mathlib.Omega.{arith}
use lib.ListN.{length-set}
use Rattle.codepage.specs.CodePage.{code_point037}
use Rattle.codepage.specs.Pairs.{utf8_pair}
use Rattle.codepage.specs.Small.{code_point_small}
use Rattle.codepage.proofs.PairLaws.{made_next, made_all}
use Rattle.codepage.proofs.pairs_of.Goals as goal

pub pair_of-requires : goal.pair_of-requires
unfolding code_point037
pair_of-requires c = rw c.requires (code_point_small c.loop-i.i (omega arith))

pub loop-i-preserved : goal.loop-i-preserved
unfolding code_point037
loop-i-preserved c =
    let entry : c.pair_of.result ≡ utf8_pair (code_point037 c.loop-i.i) = rw c.requires at c.pair_of.ensures in
    let at = c.loop-i in
    (simp length-set at.invariant.0, made_next at.pairs at.invariant.0 at.i at.invariant.1 (omega arith) c.pair_of.result entry)

pub returns : goal.returns
returns c =
    let at = c.loop-i in
    made_all at.pairs at.invariant.0 at.i at.invariant.1 c.loop-i-test.false
