use Rattle.row_words.proofs.Typed.{is_other}
use Rattle.row_words.proofs.values.decode_made.Goals as goal

pub decode_other_value-requires : goal.decode_other_value-requires
decode_other_value-requires c = rw c.column.ensures (record { there = c.requires.there; other = is_other c.args.words.first c.args.words.second c.requires.other })

pub returns : goal.returns
returns c = λ release. rw (← c.column.ensures) (c.decode_other_value.ensures release)
