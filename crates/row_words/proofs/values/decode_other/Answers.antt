use Prim.Native.Nat.{ℕ, ◌%◌, ◌^◌}
use mathlib.Core.Path.{refl, sym, ap, ◌∙◌, subst}
use mathlib.Core.Bool.{cond}
use lib.Dec.{eqb}
use Rattle.types.specs.declared.Db2Type.TheVariants as type
use Rattle.types.specs.FixedLength.{packed_length}
use Rattle.rules.specs.declared.Extent.TheVariants.{Fixed}
use Rattle.rules.specs.Meaning.{type_item}
use Rattle.rules.specs.Conversions.{conversions_of}
use Rattle.cell.specs.Cell.{Holds}
use Rattle.words.specs.Reading.{column_named}
use Rattle.row_words.specs.Passes.{type_numbers}
use Rattle.row_words.proofs.Typed.{length_is, ccsid_is, decimal_is, char_is, date_is, time_is, timestamp_is, fixed, within_row_lem}
use Rattle.row_words.proofs.values.decode_other.Goals as goal

pub returns-in-5 : goal.returns-in-5
returns-in-5 c = λ release. rw c.within_row.ensures (within_row_lem release (column_named c.args.words.first c.args.words.second) (decimal_is c.args.words.first c.args.words.second c.in-5.is) (Fixed (packed_length ((type_numbers c.args.words.first) % 2 ^ 8))) refl c.args.rest.now c.decimal_need-n.result (c.decimal_need-n.ensures.0 ∙ ap packed_length c.precision.ensures ∙ fixed (packed_length ((type_numbers c.args.words.first) % 2 ^ 8)) c.args.rest.now) c.requires.there c.decimal_item.result (λ l q. subst (λ (z : ℕ). Holds release c.decimal_item.result l (type_item (conversions_of release) (type.Decimal ((type_numbers c.args.words.first) % 2 ^ 8) z) (column_named c.args.words.first c.args.words.second) l)) c.scale.ensures (c.decimal_item.ensures ((type_numbers c.args.words.first) % 2 ^ 8) release (column_named c.args.words.first c.args.words.second) l q)) (λ l. refl))

pub returns-in-7 : goal.returns-in-7
returns-in-7 c = λ release. rw c.within_row-in-7.ensures (within_row_lem release (column_named c.args.words.first c.args.words.second) (char_is c.args.words.first c.args.words.second c.in-7.is) (Fixed (type_numbers c.args.words.first)) refl c.args.rest.now c.from-n.result (c.from-n.ensures ∙ c.type_numbers.ensures ∙ fixed (type_numbers c.args.words.first) c.args.rest.now) c.requires.there c.characters.result (λ l q. c.characters.ensures.char (type_numbers c.args.words.first) refl refl release (column_named c.args.words.first c.args.words.second) l (ccsid_is c.args.words.first c.args.words.second c.ccsid_of.ensures) q) (λ l. refl))

pub returns-in-15 : goal.returns-in-15
returns-in-15 c = λ release. rw c.within_row-in-15.ensures (within_row_lem release (column_named c.args.words.first c.args.words.second) (date_is c.args.words.first c.args.words.second c.in-15.is) (Fixed 10) refl c.args.rest.now 10 (fixed 10 c.args.rest.now) c.requires.there c.characters-in-15.result (λ l q. c.characters-in-15.ensures.date refl refl release (column_named c.args.words.first c.args.words.second) l (ccsid_is c.args.words.first c.args.words.second c.ccsid_of-in-15.ensures) q) (λ l. refl))

pub returns-in-16 : goal.returns-in-16
returns-in-16 c = λ release. rw c.within_row-in-16.ensures (within_row_lem release (column_named c.args.words.first c.args.words.second) (time_is c.args.words.first c.args.words.second c.in-16.is) (Fixed 8) refl c.args.rest.now 8 (fixed 8 c.args.rest.now) c.requires.there c.characters-in-16.result (λ l q. c.characters-in-16.ensures.time refl refl release (column_named c.args.words.first c.args.words.second) l (ccsid_is c.args.words.first c.args.words.second c.ccsid_of-in-16.ensures) q) (λ l. refl))

pub returns-in-17 : goal.returns-in-17
returns-in-17 c = λ release. rw c.within_row-in-17.ensures (within_row_lem release (column_named c.args.words.first c.args.words.second) (timestamp_is c.args.words.first c.args.words.second c.in-17.is) (Fixed (cond (eqb (column_named c.args.words.first c.args.words.second).length 0) 26 (column_named c.args.words.first c.args.words.second).length)) refl c.args.rest.now c.timestamp_need-n.result (c.timestamp_need-n.ensures.0 ∙ ap (λ (n : ℕ). cond (eqb n 0) 26 n) (sym (length_is c.args.words.first c.args.words.second c.length_of.ensures)) ∙ fixed (cond (eqb (column_named c.args.words.first c.args.words.second).length 0) 26 (column_named c.args.words.first c.args.words.second).length) c.args.rest.now) c.requires.there c.characters-in-17.result (λ l q. c.characters-in-17.ensures.timestamp refl refl release (column_named c.args.words.first c.args.words.second) l (ccsid_is c.args.words.first c.args.words.second c.ccsid_of-in-17.ensures) q) (λ l. refl))
