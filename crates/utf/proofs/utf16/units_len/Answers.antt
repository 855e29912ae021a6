use mathlib.Core.Path.{ap}
use lib.ListN.{length}
use Rattle.utf.proofs.Utf16Laws.{utf16_end}
use native.Mathlib.Omega.{arith}
use Rattle.utf.proofs.utf16.units_len.Goals as goal

pub returns : goal.returns
returns c = omega (arith, ap length (utf16_end c.args.s.now c.loop-i.i c.loop-i-test.false))
