use mathlib.Core.Path.{sym, ◌∙◌}
use Rattle.rules.specs.Meaning.{header_item}
use Rattle.cell.proofs.ExtentLaws.{says_two}
use Rattle.cell.proofs.header_item.Goals as goal

pub header_from-requires : goal.header_from-requires
header_from-requires c = says_two _ (sym c.says_header.ensures ∙ c.if-says_header.true)

pub returns-then-says_header : goal.returns-then-says_header
unfolding header_item
returns-then-says_header c = λ release. rw (sym c.says_header.ensures ∙ c.if-says_header.true) (c.header_from.ensures release)

pub returns : goal.returns
unfolding header_item
returns c = λ release. rw (sym c.says_header.ensures ∙ c.if-says_header.false) (c.header_from-2.ensures release)
