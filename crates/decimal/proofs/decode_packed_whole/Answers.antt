use mathlib.Core.Path.{◌≡◌, sym, ap, ◌∙◌}
use borrow.Author.Rules.{rules}
use Rattle.std.specs.Prelude.{Ok}
use Rattle.std.specs.Result.{result_ok}
use Rattle.decimal.specs.Length.{length_checked}
use Rattle.decimal.specs.Whole.{told_whole, refused_whole}
use Rattle.decimal.proofs.Whole.{no_digit, no_sign, signed}
use Rattle.decimal.proofs.decode_packed_whole.Goals.{In_ok-check_length}
use Rattle.decimal.proofs.decode_packed_whole.Goals as goal

accepted : (c : In_ok-check_length) → length_checked c.args.data.now ≡ Ok tt
accepted c = sym c.check_length.ensures ∙ c.in_ok-check_length.was

pub returns-then-not-digits_valid : goal.returns-then-not-digits_valid
returns-then-not-digits_valid c =
    no_digit _ _ (accepted (goal.at.returns-then-not-digits_valid c).In_ok-check_length) (sym c.if-not-digits_valid.true ∙ c.digits_valid.ensures)

pub returns-in_err-sign : goal.returns-in_err-sign
returns-in_err-sign c =
    let e : told_whole c.from_residual-in_err-sign.result ≡ refused_whole 13 = search rules in
    e ∙ no_sign _ _ (accepted (goal.at.returns-in_err-sign c).In_ok-check_length) (sym c.if-not-digits_valid.false ∙ c.digits_valid.ensures) _ c.sign_of.ensures (c.ok_or.ensures.ok_part ∙ ap result_ok c.in_err-sign.was)

pub returns : goal.returns
returns c =
    c.whole_number.ensures
    ∙ signed _ _ (accepted (goal.at.returns c).In_ok-check_length) (sym c.if-not-digits_valid.false ∙ c.digits_valid.ensures) _ c.sign_of.ensures _ (c.ok_or.ensures.ok_part ∙ ap result_ok c.in_ok-sign.was) _ c.magnitude.ensures
