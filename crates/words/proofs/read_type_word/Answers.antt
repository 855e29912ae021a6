use mathlib.Core.Path.{◌∙◌}
use Rattle.words.proofs.TypeWords.{read_large, read_small}
use Rattle.words.proofs.read_type_word.Goals as goal

-- `words::read_type_word` meets its contract. Assumes nothing.
pub returns-then-word-ge16777216 : goal.returns-then-word-ge16777216
returns-then-word-ge16777216 c = read_large c.args.word c.if-word-ge16777216.true

pub returns : goal.returns
returns c = c.then_some.ensures ∙ read_small c.args.word c.type_word.result c.type_named-t.result c.if-word-ge16777216.false c.type_named-t.ensures c.type_word.ensures.0
