use mathlib.Core.Path.{sym, ap, ◌∙◌}
use Rattle.unicode_standard.specs.Likely.{likely_piece}
use Rattle.utf.proofs.Utf8Laws.{step_ascii}
use Rattle.utf.proofs.LikelyLaws.{unlikely, likely, likely_if, ascii_piece, malformed_piece, other_piece, control_piece, no_control_piece}
use Rattle.utf.proofs.likely.likely_at.Goals as goal

pub returns-then-b-lt128 : goal.returns-then-b-lt128
returns-then-b-lt128 c = rw c.then_some.ensures (likely_if _ _ c.requires c.shown.result 1 (step_ascii _ _ c.if-b-lt128.true).0 (ap likely_piece (ascii_piece c.args.s.now c.args.e c.if-b-lt128.true) ∙ sym c.shown.ensures))

pub returns-in_default : goal.returns-in_default
returns-in_default c =
    let p = (rw c.in_default.is at c.step_at.ensures) in
    unlikely _ _ c.requires (malformed_piece _ _ (sym p.1))

pub returns-then-b : goal.returns-then-b
returns-then-b c =
    let p = (rw c.in-WellFormed.is at c.step_at.ensures) in
    likely _ _ c.requires _ p.0 (other_piece _ _ c.if-b-lt128.false (sym p.1) c.if-b.true)

pub returns-then-trail_at : goal.returns-then-trail_at
returns-then-trail_at c =
    let p = (rw c.in-WellFormed.is at c.step_at.ensures) in
    unlikely _ _ c.requires (control_piece _ _ (sym p.1) c.if-b.false (sym c.trail_at.ensures ∙ c.if-trail_at.true))

pub returns : goal.returns
returns c =
    let p = (rw c.in-WellFormed.is at c.step_at.ensures) in
    likely _ _ c.requires _ p.0 (no_control_piece _ _ (sym p.1) c.if-b.false (sym c.trail_at.ensures ∙ c.if-trail_at.false))
