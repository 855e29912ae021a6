use Prim.Native.Nat.{◌+◌}
use mathlib.Core.Path.{◌≡◌, ap, ◌∙◌}
use native.Mathlib.Omega.{arith}
use lib.ListN.{drop_of_length-le}
use Rattle.std.specs.Slice.Iter.{chunks_rest}
use Rattle.codepage.specs.Blocks.{highs}
use Rattle.codepage.proofs.Blocks.{highs_append, text_length_lem, highs_most}
use Rattle.codepage.proofs.latin1_len.Goals as goal

pub overflow_add-n : goal.overflow_add-n
overflow_add-n c =
    let rest = chunks_rest c.next.new.self in
    let split : highs (chunks_rest c.loop-block.block-iterator) ≡ c.high_count-n.result + highs rest = ap highs c.in-Some.ensures.steps.1.0 ∙ highs_append c.in-Some.block.now rest ∙ rw c.high_count-n.ensures in
    omega (arith, split, c.loop-block.invariant.1, highs_most c.args.s.now (λ j. omega (arith, c.type_inv.s j)))

pub loop-block-preserved : goal.loop-block-preserved
loop-block-preserved c =
    let rest = chunks_rest c.next.new.self in
    let split : highs (chunks_rest c.loop-block.block-iterator) ≡ c.high_count-n.result + highs rest = ap highs c.in-Some.ensures.steps.1.0 ∙ highs_append c.in-Some.block.now rest ∙ rw c.high_count-n.ensures in
    (c.in-Some.ensures.steps.0 ∙ c.loop-block.invariant.0, omega (arith, split, c.loop-block.invariant.1))

pub returns : goal.returns
unfolding highs
returns c =
    let s = c.args.s.now in
    let rest = chunks_rest c.loop-block.block-iterator in
    let none : highs rest ≡ 0 = ap highs (drop_of_length-le rest {i = 0} (omega (arith, c.in-None.ensures.steps.1.0))) in
    omega (arith, none, c.loop-block.invariant.1, text_length_lem s (λ j. omega (arith, c.type_inv.s j)))
