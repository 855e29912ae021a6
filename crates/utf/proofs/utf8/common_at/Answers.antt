use mathlib.Core.Path.{sym, ◌∙◌}
use Rattle.utf.proofs.Utf8Laws.{there, common_2, common_3}
use native.Mathlib.Omega.{arith}
use Rattle.utf.proofs.utf8.common_at.Goals as goal

pub returns-then-b-lt224 : goal.returns-then-b-lt224
returns-then-b-lt224 c = common_2 _ _ (there _ _ (omega (arith, c.if-s-i-lt3.false)) (sym c.is_trail.ensures ∙ c.if-not-is_trail.false)) c.if-b-lt194.false c.if-b-lt224.true

pub returns-then-is_trail : goal.returns-then-is_trail
returns-then-is_trail c =
    common_3 _ _ (there _ _ (omega (arith, c.if-s-i-lt3.false)) (sym c.is_trail.ensures ∙ c.if-not-is_trail.false)) (there _ _ (omega (arith, c.if-s-i-lt3.false)) (sym c.is_trail-2.ensures ∙ c.if-is_trail.true))
    (omega (arith, c.if-b-lt224.false, c.if-b.false)) c.if-b-ge240.false c.if-b-2.false
