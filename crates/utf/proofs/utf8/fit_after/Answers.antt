use mathlib.Core.Path.{sym, ◌∙◌}
use native.Mathlib.Omega.{arith}
use Rattle.utf.proofs.Utf8Laws.{stop_2, first_fits, next_fits, next_stops, all_fit}
use Rattle.utf.proofs.utf8.fit_after.Goals as goal

pub returns-then-not-trail_at : goal.returns-then-not-trail_at
returns-then-not-trail_at g c = stop_2 _ _ _ _ _ (sym c.trail_at.ensures ∙ c.if-not-trail_at.true)

pub loop-n-init : goal.loop-n-init
loop-n-init g c = first_fits _ _ _ _ _ (sym c.trail_at.ensures ∙ c.if-not-trail_at.false)

pub returns-then-not-trail_at-2 : goal.returns-then-not-trail_at-2
returns-then-not-trail_at-2 g c = next_stops _ _ _ _ _ _ c.loop-n.invariant (sym c.trail_at-in-loop-n.ensures ∙ c.if-not-trail_at-2.true)

pub loop-n-preserved : goal.loop-n-preserved
loop-n-preserved g c = next_fits _ _ _ _ _ _ c.loop-n-test.true c.loop-n.invariant (sym c.trail_at-in-loop-n.ensures ∙ c.if-not-trail_at-2.false)

pub returns : goal.returns
returns g c = all_fit _ _ _ _ _ _ c.loop-n.invariant (omega arith)
