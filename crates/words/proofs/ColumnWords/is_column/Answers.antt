use Rattle.words.proofs.Bitwise.{wide_number, bits_above, width_alone, by_type}
use Rattle.words.proofs.ColumnWords.is_column.Goals as goal

-- `words::ColumnWords::is_column` meets its contract: a law for each way out. Assumes nothing.
pub returns-then-self-ne0 : goal.returns-then-self-ne0
returns-then-self-ne0 c = wide_number c.args.self.first c.args.self.second c.if-self-ne0.true

pub returns-then-self-ge6755399441055744 : goal.returns-then-self-ge6755399441055744
returns-then-self-ge6755399441055744 c = bits_above c.args.self.first c.args.self.second c.if-self-ge6755399441055744.true

pub returns-then-self : goal.returns-then-self
returns-then-self c = width_alone c.args.self.first c.args.self.second c.if-self.true

pub returns : goal.returns
returns c = by_type c.args.self.first c.args.self.second c.if-self-ge6755399441055744.false c.if-self-ne0.false c.if-self.false c.holds.ensures
