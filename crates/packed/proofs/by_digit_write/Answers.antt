use Prim.Native.Nat.{ℕ, ◌+◌, ◌-◌}
use mathlib.Core.Path.{◌≡◌}
use native.Mathlib.Omega.{arith}
use Rattle.buffer.proofs.Writing.{stored}
use Rattle.packed.proofs.Nibbles.{run_length, slice_next}
use Rattle.packed.proofs.by_digit_write.Goals as goal

pub bounds-out-k : goal.bounds-out-k
bounds-out-k c = let a = c.args in
    omega (arith, run_length a.«data».now a.a a.e c.requires.1.0, c.requires)

pub loop-k-preserved : goal.loop-k-preserved
loop-k-preserved c =
    let a = c.args in
    let k : ℕ = c.loop-k.k in
    let o : k + 1 - a.a ≡ k - a.a + 1 = omega arith in
    rw o (stored c.loop-k.invariant _ _ (slice_next _ k a.e _ (omega arith) c.requires.1.0 c.digit_at.ensures))
