use borrow.Author.Tests.{le-ltb}
use native.Mathlib.Omega.{arith}
use Prim.Native.Nat.{◌≤◌}
use mathlib.Core.Path.{◌≡◌, refl, sym, ◌∙◌}
use lib.ListN.{length}
use Rattle.std.proofs.Common.{rules}
use Rattle.std.proofs.lemmas.List.Recursion.{or_is}
use Rattle.refusal.specs.Refusal.{input_limit}
use Rattle.types.specs.Names.{is_dec_float}
use Rattle.types.specs.Places.{blank_column}
use Rattle.rules.specs.Row.{any_dec_float, covered, row_decision, answer_of, text_after}
use Rattle.rules.specs.Conversions.{row_answer, row_text}
use Rattle.rules.proofs.Rows.{skip_fits}
use Rattle.row.proofs.Scales.{owned_scaled, covered_scaled}
use Rattle.row.proofs.decode_row.Goals as goal

pub returns-then-any : goal.returns-then-any
unfolding row_answer row_text row_decision answer_of text_after any_dec_float
returns-then-any c =
    let found : c.any.result ≡ any_dec_float (covered c.args.columns) = or_is any_dec_float is_dec_float refl (λ _ _. refl) (covered c.args.columns) blank_column c.any.result (search rules) (search rules) in
    let within : length c.args.«data».now ≤ input_limit = omega arith in
    rw (sym c.is_release.ensures ∙ c.if-not-is_release.false, le-ltb _ _ c.if-count-gt-MAX_COLUMNS.false, le-ltb _ _ within, sym found ∙ c.if-any.true) (record { answer = refl; text = refl })

pub decode_row_body-requires : goal.decode_row_body-requires
decode_row_body-requires c = record { count = omega (arith, c.if-count-gt-MAX_COLUMNS.false); scales = covered_scaled c.args.columns.count c.args.columns.columns (owned_scaled c.args.columns.columns _ c.well_formed.1.0.1.1.0.1.1); start = omega (arith, c.skip_of.ensures, skip_fits c.args.«data».now); limit = omega arith }

pub returns : goal.returns
unfolding row_answer row_text row_decision any_dec_float
returns c =
    let found : c.any.result ≡ any_dec_float (covered c.args.columns) = or_is any_dec_float is_dec_float refl (λ _ _. refl) (covered c.args.columns) blank_column c.any.result (search rules) (search rules) in
    let within : length c.args.«data».now ≤ input_limit = omega arith in
    rw (sym c.is_release.ensures ∙ c.if-not-is_release.false, le-ltb _ _ c.if-count-gt-MAX_COLUMNS.false, le-ltb _ _ within, sym found ∙ c.if-any.false, ← c.skip_of.ensures) (record { answer = c.decode_row_body.ensures.answer; text = c.decode_row_body.ensures.text })
