use Prim.Native.Nat.{ℕ}
use mathlib.Core.List.{List}
use mathlib.Core.Path.{◌≡◌, sym, ◌∙◌}
use native.Mathlib.Omega.{arith}
use borrow.Author.Rules.{rules}
use lib.ListN.{length}
use Rattle.utf.proofs.AsciiLaws.{chunk_fits, chunk_rest}
use Rattle.utf.proofs.LossyWriting.{wrote_none, copy_room, copied_chunk}
use Rattle.utf.proofs.ascii.copy_ascii_8s.Goals as goal

pub loop-block-init : goal.loop-block-init
loop-block-init c = (search rules, search rules, wrote_none _ _ c.requires)

pub copy_array-requires : goal.copy_array-requires
copy_array-requires c =
    let S : List ℕ = c.args.s.now in
    let I : ℕ = c.loop-block.n in
    let steps = c.in-Some.ensures.steps in
    let at = c.loop-block.invariant in
    let long : length c.in-Some.block.now ≡ 8 = steps.1.1 ∙ at.0 in
    (omega (arith, long), copy_room S c.args.out.now c.loop-block.out I I 0 at.2 8 (chunk_fits I 8 S _ _ (sym at.1 ∙ steps.1.0) long at.2.fits))

pub returns-then-not-ascii_8 : goal.returns-then-not-ascii_8
returns-then-not-ascii_8 c =
    let S : List ℕ = c.args.s.now in
    let I : ℕ = c.loop-block.n in
    let steps = c.in-Some.ensures.steps in
    let at = c.loop-block.invariant in
    let more = sym at.1 ∙ steps.1.0 in
    let long = steps.1.1 ∙ at.0 in
    copied_chunk S c.args.out.now c.loop-block.out I I 0 at.2 8 (chunk_fits I 8 S _ _ more long at.2.fits) _ _ more long c.copy_array.new.out c.copy_array.ensures c.ascii_in_8.result c.ascii_in_8.ensures.1 c.ascii_in_8.ensures.0

pub loop-block-preserved : goal.loop-block-preserved
loop-block-preserved c =
    let S : List ℕ = c.args.s.now in
    let I : ℕ = c.loop-block.n in
    let steps = c.in-Some.ensures.steps in
    let at = c.loop-block.invariant in
    let more = sym at.1 ∙ steps.1.0 in
    let long = steps.1.1 ∙ at.0 in
    let eight = c.ascii_8.ensures c.if-not-ascii_8.false in (
      steps.0 ∙ at.0,
      chunk_rest I 8 S _ _ more long,
      copied_chunk S c.args.out.now c.loop-block.out I I 0 at.2 8 (chunk_fits I 8 S _ _ more long at.2.fits) _ _ more long c.copy_array.new.out c.copy_array.ensures 8 (omega arith) eight,
    )
