use Rattle.utf.proofs.AsciiLaws.{run_none, run_unless}
use Rattle.utf.proofs.ascii.any_high.Goals as goal

pub loop-b-init : goal.loop-b-init
loop-b-init c = λ e. run_none _

pub loop-b-preserved : goal.loop-b-preserved
loop-b-preserved c = run_unless c.args.s.now c.loop-b.b-index c.loop-b.high c.loop-b.invariant c.loop-b-test.true
