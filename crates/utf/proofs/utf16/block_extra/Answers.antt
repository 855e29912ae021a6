use Prim.Native.Nat.{◌+◌, ◌*◌, ◌/◌}
use mathlib.Core.Path.{◌≡◌, ◌∙◌}
use native.Mathlib.Omega.{arith}
use Rattle.utf.proofs.Utf16BlockLaws.{next}
use Rattle.utf.proofs.utf16.block_extra.Goals as goal

pub loop-i-preserved : goal.loop-i-preserved
loop-i-preserved c =
    let n =
    next c.args.s.now (λ j. omega (arith, c.type_inv.s j)) c.loop-i.i c.loop-i.k c.extra-k.result
    c.requires.1 c.loop-i-test.true (rw c.requires.0 at c.extra-k.ensures) c.loop-i.invariant.1 c.loop-i.invariant.2 in
    (omega arith, n.0, n.1)

pub returns : goal.returns
returns c =
    let i : c.loop-i.i ≡ 128 = omega (arith, c.loop-i.invariant.0, c.loop-i-test.false) in
    let h : 2 * ((c.loop-i.i + 1) / 2) ≡ 128 = omega arith in
    (omega (arith, c.loop-i.invariant.1), rw h at c.loop-i.invariant.2 ∙ omega arith)
