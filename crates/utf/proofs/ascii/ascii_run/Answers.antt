use Rattle.utf.proofs.AsciiLaws.{run_none, run_byte}
use Rattle.utf.proofs.ascii.ascii_run.Goals as goal

pub returns-then-is_none_or : goal.returns-then-is_none_or
returns-then-is_none_or c = run_none _

pub loop-i-preserved : goal.loop-i-preserved
loop-i-preserved c = run_byte _ _ c.loop-i.invariant c.loop-i-test.true c.if-s-i-ge128.false
