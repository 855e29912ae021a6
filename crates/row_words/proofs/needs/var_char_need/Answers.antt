use mathlib.Core.Path.{sym, ◌∙◌}
use native.Mathlib.Omega.{arith}
use Rattle.rules.specs.declared.Extent.TheVariants.{Counted}
use Rattle.words.specs.Reading.{column_named}
use Rattle.row_words.specs.Passes.{type_numbers}
use Rattle.row_words.proofs.Typed.{no_number_lem, var_char_is, counted_is, typed_need}
use Rattle.row_words.proofs.needs.var_char_need.Goals as goal

pub other_named-requires : goal.other_named-requires
other_named-requires c = no_number_lem c.args.words.first (omega (arith, c.requires))

pub returns : goal.returns
returns c = (c.counted_need.ensures.0 ∙ typed_need (column_named c.args.words.first c.args.words.second) (var_char_is c.args.words.first c.args.words.second c.requires) (Counted 1) (counted_is (column_named c.args.words.first c.args.words.second) (type_numbers c.args.words.first) (sym c.is_header.ensures ∙ c.if-is_header.false)) c.args.rest.now, omega (arith, c.counted_need.ensures.1.1))
