use Rattle.row_words.proofs.Typed.{is_other}
use Rattle.row_words.proofs.needs.other_named.Goals as goal

pub other_need-requires : goal.other_need-requires
other_need-requires c = rw c.column.ensures (is_other c.args.words.first c.args.words.second c.requires)
