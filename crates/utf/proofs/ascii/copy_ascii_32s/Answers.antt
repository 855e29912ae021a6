use borrow.Author.Rules.{rules}
use Prim.Native.Nat.{ℕ, ◌+◌}
use native.Mathlib.Omega.{arith}
use mathlib.Core.Path.{◌≡◌, sym, ap, ◌∙◌}
use mathlib.Core.List.{List, ◌++◌}
use lib.ListN.{length, drop}
use lib.Seq.{take_all}
use Rattle.std.specs.Slice.Iter.{chunks_exact_rest}
use Rattle.buffer.proofs.Writing.{start, fits_rest, wrote_rest}
use Rattle.utf.proofs.AsciiLaws.{run_none, run_chunk}
use Rattle.utf.proofs.ascii.copy_ascii_32s.Goals as goal

pub loop-block-init : goal.loop-block-init
loop-block-init c = (search rules, search rules, run_none _, start _ _ c.requires)

pub copy_array-requires : goal.copy_array-requires
copy_array-requires c =
    let steps = c.in-Some.ensures.steps in
    let at = c.loop-block.invariant in
    let long : length c.in-Some.block.now ≡ 32 = steps.1.1 ∙ at.0 in
    (omega (arith, long), fits_rest at.3 c.in-Some.block.now (chunks_exact_rest c.next.new.self) (sym at.1 ∙ steps.1.0) (sym long))

pub loop-block-preserved : goal.loop-block-preserved
loop-block-preserved c =
    let S : List ℕ = c.args.s.now in
    let I : ℕ = c.loop-block.n in
    let Block : List ℕ = c.in-Some.block.now in
    let steps = c.in-Some.ensures.steps in
    let at = c.loop-block.invariant in
    let long : length Block ≡ 32 = steps.1.1 ∙ at.0 in
    let next = run_chunk I 32 S at.2 Block (chunks_exact_rest c.next.new.self) (sym at.1 ∙ steps.1.0) long (c.any_high.ensures (search rules)) in
    let split : drop I S ≡ Block ++ drop (I + 32) S = sym at.1 ∙ steps.1.0 ∙ ap (λ (l : List ℕ). Block ++ l) next.0 in
    (steps.0 ∙ at.0, next.0, next.1, wrote_rest at.3 Block (drop (I + 32) S) split c.copy_array.new.out (rw (take_all 32 Block (omega (arith, long))) at c.copy_array.ensures) 32 (sym long))
