use mathlib.Core.Path.{refl}
use Rattle.codepage.specs.CodePage.{table037}
use Rattle.codepage.proofs.ebcdic037_len.Goals as goal

-- `codepage::ebcdic037_len` meets its contract: the constant is the table. Assumes nothing.
pub invariant_of-bytes_len : goal.invariant_of-bytes_len
unfolding table037
invariant_of-bytes_len c = record { is = refl }
