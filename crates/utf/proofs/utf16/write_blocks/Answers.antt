use Prim.Native.Nat.{ℕ, ◌+◌, ◌-◌, ◌≤◌}
use mathlib.Core.List.{List, ◌++◌}
use mathlib.Core.Path.{sym, ◌∙◌}
use native.Mathlib.Omega.{arith}
use lib.ListN.{length, take, drop}
use Rattle.utf.specs.Utf16Code.{AfterFirst}
use Rattle.buffer.proofs.Filling.{fits, wrote_filling}
use Rattle.utf.proofs.AsciiLaws.{rest_length}
use Rattle.utf.proofs.Utf16LaneLaws.{lent_first, lent_drop, lent_after}
use Rattle.utf.proofs.utf16.write_blocks.Goals as goal

pub write_block-t-requires : goal.write_block-t-requires
write_block-t-requires c =
    let s : List ℕ = c.args.s.now in (
      omega (arith, rest_length s c.loop-i.i, c.loop-i-test.true),
      (
        rw (lent_first s c.loop-i.i) (sym c.between.ensures ∙ c.if-between.false),
        rw (lent_drop s c.loop-i.i 2) (omega (arith, fits c.loop-i.invariant.1.1.0, rest_length c.loop-i.out c.loop-i.o)),
      ),
    )

pub returns-then-t-credit : goal.returns-then-t-credit
returns-then-t-credit c =
    let S : List ℕ = c.args.s.now in
    let few : c.write_block-t.result.part.read ≤ 128 = c.write_block-t.ensures.1.0 in
    let left : c.loop-i.i + 144 ≤ length S = omega (arith, c.loop-i-test.true, c.loop-i.invariant.0) in
    let w₁ : AfterFirst S c.args.out.now (take c.loop-i.o c.loop-i.out ++ (c.write_block-t.new.out ++ drop (length c.loop-i.out - c.loop-i.o) (drop c.loop-i.o c.loop-i.out))) (c.loop-i.i + c.write_block-t.result.part.read) (c.loop-i.o + c.write_block-t.result.part.len) = let v = lent_after S c.loop-i.i _ c.write_block-t.new.out c.write_block-t.result.part.read c.write_block-t.result.part.len c.write_block-t.ensures.0 in (wrote_filling c.loop-i.invariant.1.1.0 v.0, c.loop-i.invariant.1.1.1 ∙ v.1) in
    (w₁, omega (arith, few, left))

pub loop-i-preserved : goal.loop-i-preserved
loop-i-preserved c =
    let S : List ℕ = c.args.s.now in
    let few : c.write_block-t.result.part.read ≤ 128 = c.write_block-t.ensures.1.0 in
    let left : c.loop-i.i + 144 ≤ length S = omega (arith, c.loop-i-test.true, c.loop-i.invariant.0) in
    let w₁ : AfterFirst S c.args.out.now (take c.loop-i.o c.loop-i.out ++ (c.write_block-t.new.out ++ drop (length c.loop-i.out - c.loop-i.o) (drop c.loop-i.o c.loop-i.out))) (c.loop-i.i + c.write_block-t.result.part.read) (c.loop-i.o + c.write_block-t.result.part.len) = let v = lent_after S c.loop-i.i _ c.write_block-t.new.out c.write_block-t.result.part.read c.write_block-t.result.part.len c.write_block-t.ensures.0 in (wrote_filling c.loop-i.invariant.1.1.0 v.0, c.loop-i.invariant.1.1.1 ∙ v.1) in
    (omega (arith, few, left), (c.kept-credit.ensures, w₁))
