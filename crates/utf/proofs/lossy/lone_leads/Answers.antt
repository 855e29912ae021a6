use mathlib.Core.Path.{ap}
use native.Mathlib.Omega.{arith}
use lib.ListN.{drop_of_length-le}
use Rattle.utf.specs.Lossy.{leads}
use Rattle.utf.proofs.LossyLengths.{leads_next, none_more}
use Rattle.utf.proofs.lossy.lone_leads.Goals as goal

pub loop-b-preserved : goal.loop-b-preserved
loop-b-preserved c =
    let s = c.args.s.now in
    let at = c.loop-b in
    let b = c.type_inv.s at.b-index in (
      omega (arith, b, at.invariant.0),
      omega (arith, leads_next s at.b-index c.loop-b-test.true, at.invariant.1),
      none_more s at.b-index c.between-trail.result at.trail at.invariant.2 c.between-trail.ensures,
    )

pub returns : goal.returns
unfolding leads
returns c =
    let s = c.args.s.now in
    record {
      none = λ j k. c.loop-b.invariant.2 c.if-trail.false j (omega (arith, c.loop-b-test.false));
      count = omega (arith, ap leads (drop_of_length-le s c.loop-b-test.false), c.loop-b.invariant.1);
      most = omega (arith, c.loop-b.invariant.0);
    }
