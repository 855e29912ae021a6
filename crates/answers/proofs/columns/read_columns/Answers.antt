use Rattle.std.proofs.Common.{rules}
use native.Mathlib.Omega.{arith}
use lib.ListN.{length-set}
use Rattle.answers.proofs.Numbered.{numbered_more}
use Rattle.answers.proofs.columns.read_columns.Goals as goal

pub loop-i-preserved : goal.loop-i-preserved
loop-i-preserved c =
    (simp length-set c.loop-i.invariant.0, numbered_more c.loop-i.columns c.loop-i.i c.in_ok-columns.field-0 (omega arith) (search rules) c.loop-i.invariant.1)
