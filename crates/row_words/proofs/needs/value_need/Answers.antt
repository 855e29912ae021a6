use Prim.Native.Nat.{ℕ, ◌%◌, ◌^◌}
use mathlib.Core.Path.{refl, sym, ap, ◌∙◌}
use mathlib.Core.Bool.{cond}
use native.Mathlib.Omega.{arith}
use Rattle.std.proofs.Common.{rules}
use lib.Dec.{eqb}
use Rattle.types.specs.FixedLength.{packed_length}
use Rattle.cell.proofs.NumberLaws.{number_need}
use Rattle.words.specs.Reading.{column_named}
use Rattle.row_words.specs.Passes.{type_numbers}
use Rattle.row_words.proofs.Typed.{no_number_lem, length_is, decimal_is, char_is, timestamp_is}
use Rattle.row_words.proofs.needs.value_need.Goals as goal

pub other_named-requires : goal.other_named-requires
other_named-requires c = no_number_lem c.args.words.first (search rules)

pub returns-in-5 : goal.returns-in-5
returns-in-5 c = (c.decimal_need.ensures.0 ∙ ap packed_length c.precision.ensures ∙ number_need (column_named c.args.words.first c.args.words.second) (decimal_is c.args.words.first c.args.words.second c.in-5.is) (packed_length ((type_numbers c.args.words.first) % 2 ^ 8)) refl c.args.rest.now, omega (arith, c.decimal_need.ensures.1.1))

pub returns-in-7 : goal.returns-in-7
returns-in-7 c = (c.from.ensures ∙ c.type_numbers.ensures ∙ number_need (column_named c.args.words.first c.args.words.second) (char_is c.args.words.first c.args.words.second c.in-7.is) (type_numbers c.args.words.first) refl c.args.rest.now, omega (arith, c.from.ensures, c.type_numbers.ensures))

pub returns-in-17 : goal.returns-in-17
returns-in-17 c = (c.timestamp_need.ensures.0 ∙ ap (λ (n : ℕ). cond (eqb n 0) 26 n) (sym (length_is c.args.words.first c.args.words.second c.length_of.ensures)) ∙ number_need (column_named c.args.words.first c.args.words.second) (timestamp_is c.args.words.first c.args.words.second c.in-17.is) (cond (eqb (column_named c.args.words.first c.args.words.second).length 0) 26 (column_named c.args.words.first c.args.words.second).length) refl c.args.rest.now, omega (arith, c.timestamp_need.ensures.1))
