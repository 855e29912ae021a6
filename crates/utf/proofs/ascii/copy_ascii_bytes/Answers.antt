use mathlib.Core.Path.{◌≡◌, ap}
use lib.ListN.{length}
use Rattle.buffer.proofs.Writing.{start, stored, fits}
use Rattle.utf.proofs.AsciiLaws.{run_none, run_byte}
use Rattle.utf.proofs.Utf8Runs.{ascii_byte, ascii_written}
use native.Mathlib.Omega.{arith}
use Rattle.utf.proofs.ascii.copy_ascii_bytes.Goals as goal

pub loop-i-init : goal.loop-i-init
loop-i-init c = (run_none _, start _ _ c.requires)

pub returns-then-b-ge128-clause-bytes : goal.returns-then-b-ge128-clause-bytes
returns-then-b-ge128-clause-bytes c = ascii_written _ _ _ _ c.loop-i.invariant.0 c.loop-i.invariant.1

pub bounds-out-i : goal.bounds-out-i
bounds-out-i c = omega (arith, fits c.loop-i.invariant.1, ap length (ascii_byte c.args.s.now c.loop-i.i c.loop-i-test.true c.if-b-ge128.false))

pub loop-i-preserved : goal.loop-i-preserved
loop-i-preserved c = (run_byte _ _ c.loop-i.invariant.0 c.loop-i-test.true c.if-b-ge128.false, stored c.loop-i.invariant.1 _ _ (ascii_byte _ _ c.loop-i-test.true c.if-b-ge128.false))

pub returns-clause-bytes : goal.returns-clause-bytes
returns-clause-bytes c =
    let e : c.loop-i.i ≡ length c.args.s.now = omega arith in
    rw (← e) (ascii_written _ _ _ _ c.loop-i.invariant.0 c.loop-i.invariant.1)
