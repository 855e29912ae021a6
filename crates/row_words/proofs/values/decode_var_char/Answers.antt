use mathlib.Core.Path.{refl, sym, ◌∙◌}
use native.Mathlib.Omega.{arith}
use Rattle.rules.specs.declared.Extent.TheVariants.{Counted}
use Rattle.words.specs.Reading.{column_named}
use Rattle.row_words.specs.Passes.{type_numbers}
use Rattle.row_words.proofs.Typed.{no_number_lem, var_char_is, ccsid_is, counted_is, within_row_lem}
use Rattle.row_words.proofs.values.decode_var_char.Goals as goal

pub decode_made-requires : goal.decode_made-requires
decode_made-requires c = record { there = c.requires.there; other = no_number_lem c.args.words.first (omega (arith, c.requires.tag)) }

pub returns-then-is_header : goal.returns-then-is_header
returns-then-is_header c = λ release. c.decode_made.ensures release

pub returns : goal.returns
returns c = λ release.
    let h = sym c.is_header.ensures ∙ c.if-is_header.false in
    rw c.within_row.ensures (within_row_lem release (column_named c.args.words.first c.args.words.second) (var_char_is c.args.words.first c.args.words.second c.requires.tag) (Counted 1) (counted_is (column_named c.args.words.first c.args.words.second) (type_numbers c.args.words.first) h) c.args.rest.now c.counted_need-n.result c.counted_need-n.ensures.0 c.requires.there c.characters.result (λ l q. c.characters.ensures.var_char (type_numbers c.args.words.first) h refl refl release (column_named c.args.words.first c.args.words.second) l (ccsid_is c.args.words.first c.args.words.second c.ccsid_of.ensures) q) (λ l. rw h))
