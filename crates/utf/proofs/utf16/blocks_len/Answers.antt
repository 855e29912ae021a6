use Prim.Native.Nat.{◌+◌}
use mathlib.Core.Path.{◌≡◌}
use native.Mathlib.Omega.{arith}
use lib.ListN.{length}
use lib.Seq.{drop-drop}
use Rattle.unicode_standard.specs.Unicode.{utf16_text}
use Rattle.utf.proofs.AsciiLaws.{rest}
use Rattle.utf.proofs.Bound.{utf16_bound}
use Rattle.utf.proofs.utf16.blocks_len.Goals as goal

pub loop-i-preserved : goal.loop-i-preserved
loop-i-preserved c =
    let s = c.args.s.now in
    let e = rw (rest s c.loop-i.i, drop-drop 128 c.loop-i.i s) at c.block_extra-k.ensures.1 in
    (omega arith, omega (arith, c.block_extra-k.ensures.0, c.loop-i.invariant.1), omega (arith, e, c.loop-i.invariant.2))

pub overflow_add-result : goal.overflow_add-result
overflow_add-result c =
    let whole : c.loop-i.n + c.units_len.result ≡ length (utf16_text c.args.s.now) = let e = rw (rest c.args.s.now c.loop-i.i) at c.units_len.ensures in omega (arith, e, c.loop-i.invariant.2) in
    omega (arith, whole, utf16_bound c.args.s.now)
