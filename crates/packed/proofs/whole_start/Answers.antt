use Prim.Native.Nat.{◌-◌}
use mathlib.Core.Path.{◌≡◌}
use native.Mathlib.Omega.{arith}
use Rattle.packed.proofs.Nibbles.{zero_goes, digit_stays, last_stays}
use Rattle.packed.proofs.whole_start.Goals as goal

pub returns-then-digit_at-ne48 : goal.returns-then-digit_at-ne48
returns-then-digit_at-ne48 c =
    digit_stays _ _ _ _ c.requires.1 (omega arith) c.loop-z.invariant c.digit_at.ensures c.if-digit_at-ne48.true

pub loop-z-preserved : goal.loop-z-preserved
loop-z-preserved c =
    zero_goes _ _ _ _ c.requires.1 (omega arith) c.loop-z.invariant c.digit_at.ensures c.if-digit_at-ne48.false

pub returns : goal.returns
returns c =
    let last : c.args.w - 1 ≡ c.loop-z.z = omega arith in
    rw last (last_stays _ _ _ c.requires.1 (omega arith) c.loop-z.invariant (omega arith))
