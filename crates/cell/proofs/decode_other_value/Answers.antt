use native.Mathlib.Omega.{arith}
use Rattle.cell.proofs.ItemLaws.{cut_there}
use Rattle.cell.proofs.decode_other_value.Goals as goal

pub item_of-requires : goal.item_of-requires
item_of-requires c = record { there = cut_there c.args.column c.args.rest.now c.other_need-used.result c.other_need-used.ensures.0 (omega (arith, c.other_need-used.ensures.0, c.requires.there)); other = c.requires.other }

pub refers-requires : goal.refers-requires
refers-requires c = cut_there c.args.column c.args.rest.now c.other_need-used.result c.other_need-used.ensures.0 (omega (arith, c.other_need-used.ensures.0, c.requires.there))
