use Rattle.std.proofs.Common.{rules}
use Rattle.words.proofs.column_words.Goals as goal

pub returns : goal.returns
returns c = (search rules, search rules)
