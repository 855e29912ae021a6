use native.Mathlib.Omega.{arith}
use lib.Seq.{get_or-take, length-take-le}
use Rattle.utf.proofs.AsciiLaws.{run_none, leading_more}
use Rattle.utf.proofs.ascii.ascii_in_8.Goals as goal

pub loop-b-init : goal.loop-b-init
loop-b-init c = record { run = run_none _; so_far = λ e. omega arith; most = omega arith }

pub loop-b-preserved : goal.loop-b-preserved
loop-b-preserved c =
    let at = c.loop-b in
    let n = length-take-le 8 c.args.s.now c.requires in
    let e = get_or-take 8 c.args.s.now at.b-index 0 (omega arith) in
    rw e (leading_more c.args.s.now at.all at.n at.b-index at.invariant (omega (arith, c.requires)) c.from-n.result (rw e at c.from-n.ensures))
