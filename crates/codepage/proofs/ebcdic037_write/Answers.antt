use mathlib.Core.Path.{refl}
use Rattle.codepage.specs.CodePage.{table037}
use Rattle.codepage.proofs.ebcdic037_write.Goals as goal

-- `codepage::ebcdic037_write` meets its contract: the constant is the table. Assumes nothing.
pub table037_write-requires : goal.table037_write-requires
unfolding table037
table037_write-requires c = (refl, c.requires)
