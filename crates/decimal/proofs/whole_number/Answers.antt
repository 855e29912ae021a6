use mathlib.Core.Path.{◌≡◌, sym, ap, ◌∙◌}
use borrow.Author.Rules.{rules}
use Rattle.std.specs.Option.{SomeIff}
use Rattle.std.specs.Result.{result_ok}
use mir.Syntax.{w64}
use mir.Val.{SFits}
use Rattle.decimal.specs.Whole.{told_whole}
use Rattle.decimal.proofs.Whole.{made, told_number, number_told, put_in, off_is, taken_is, taken_off}
use Rattle.decimal.proofs.whole_number.Goals.{in-Plus, in-Minus, Joined-sign}
use Rattle.decimal.proofs.whole_number.Goals as goal

numbered : (c : Joined-sign) → SomeIff c.match-sign.number (SFits w64 (made c.args.sign c.args.n)) (made c.args.sign c.args.n)
numbered c = elim c.match-sign.branch [ in-Plus w ↦ rw (w.number-is, w.ok-number.ensures.value, w.in-Plus.is) (put_in _ _ _ w.try_from.ensures (λ h. search rules) (λ h. search rules)) | in-Minus w ↦ rw (w.number-is, w.in-Minus.is) (taken_off c.args.n _ _ w.checked_sub_unsigned-number.ensures (search (rules, taken_is)) (λ h. search (rules, off_is)) (λ h. search (rules, off_is))) ]

pub returns-in_err-number : goal.returns-in_err-number
returns-in_err-number c =
    let e : told_whole c.from_residual.result ≡ told_number c.args.scale c.match-sign.number = search rules in
    e ∙ number_told _ _ _ _ (numbered (goal.at.returns-in_err-number c).Joined-sign)

pub returns : goal.returns
returns c = sym (ap (told_number c.args.scale) (c.ok_or.ensures.ok_part ∙ ap result_ok c.in_ok-number.was)) ∙ number_told _ _ _ _ (numbered (goal.at.returns c).Joined-sign)
