use mathlib.Core.Path.{sym, ap}
use native.Mathlib.Omega.{arith}
use lib.ListN.{length}
use Rattle.packed.proofs.Nibbles.{no_fraction, fraction_length}
use Rattle.packed.proofs.fraction_len.Goals as goal

-- `packed::fraction_len` meets its contract. Assumes nothing.
pub returns-then-scale-eq0 : goal.returns-then-scale-eq0
returns-then-scale-eq0 c = (λ ds. sym (ap length (no_fraction _ ds c.if-scale-eq0.true)), omega arith)

pub returns : goal.returns
returns c = (λ ds. fraction_length _ ds c.if-scale-eq0.false, omega arith)
