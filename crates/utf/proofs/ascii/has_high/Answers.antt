use Prim.Native.Nat.{◌+◌}
use mathlib.Core.Path.{sym, ◌∙◌}
use lib.ListN.{get_or, drop, drop_of_length-le}
use Rattle.buffer.proofs.Writing.{next}
use Rattle.utf.proofs.AsciiLaws.{larger, no_larger, found}
use Rattle.utf.proofs.ascii.has_high.Goals as goal
use Rattle.utf.proofs.ascii.has_high.Goals.{then-largest-b, else-largest-b}

pub loop-b-preserved : goal.loop-b-preserved
loop-b-preserved c =
    let s = c.args.s.now in
    let i = c.loop-b.b-index in
    let m = c.loop-b.largest in
    let e = rw (next s i c.loop-b-test.true) at c.loop-b.invariant in
    elim c.if-largest-b.branch [
      | then-largest-b w ↦ rw w.largest-is (sym (larger m (get_or s i 0) (drop (i + 1) s) w.if-largest-b.true) ∙ e)
      | else-largest-b w ↦ rw w.largest-is (sym (no_larger m (get_or s i 0) (drop (i + 1) s) w.if-largest-b.false) ∙ e)
    ]

pub returns : goal.returns
returns c = found c.loop-b.largest _ (rw (drop_of_length-le _ c.loop-b-test.false) at c.loop-b.invariant)
