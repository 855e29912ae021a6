use mathlib.Core.Path.{ap, sym}
use native.Mathlib.Omega.{arith}
use lib.ListN.{length}
use Rattle.unicode_standard.proofs.ScalarBytes.{utf8_one, utf8_two, utf8_three, utf8_four}
use Rattle.utf.proofs.scalar.scalar_len.Goals as goal

-- `utf::scalar::scalar_len` meets its contract. Assumes nothing.
pub returns-in-0-to-127 : goal.returns-in-0-to-127
returns-in-0-to-127 c = (sym (ap length (utf8_one _ (omega arith))), omega arith)

pub returns-in-128-to-2047 : goal.returns-in-128-to-2047
returns-in-128-to-2047 c = (sym (ap length (utf8_two _ (omega arith) (omega arith))), omega arith)

pub returns-in-2048-to-65535 : goal.returns-in-2048-to-65535
returns-in-2048-to-65535 c = (sym (ap length (utf8_three _ (omega arith) (omega arith))), omega arith)

pub returns-in_default : goal.returns-in_default
returns-in_default c = (sym (ap length (utf8_four _ (omega arith))), omega arith)
