use mathlib.Core.Path.{refl}
use native.Mathlib.Omega.{arith}
use lib.ListN.{get_or}
use Rattle.utf.specs.Utf8Code.{ranges}
use Rattle.utf.proofs.Utf8Laws.{step_ascii, step_none, fit_most, row_of_3, row_of_4, by_trails}
use Rattle.utf.proofs.utf8.first_at.Goals as goal

pub with_first-requires : goal.with_first-requires
with_first-requires c = omega (arith, fit_most c.args.s.now c.args.i _ _ _ c.fit_after.ensures)

pub with_first-requires-in-224-to-239 : goal.with_first-requires-in-224-to-239
with_first-requires-in-224-to-239 c = omega (arith, fit_most c.args.s.now c.args.i _ _ _ c.fit_after-in-224-to-239.ensures)

pub with_first-requires-in-240-to-244 : goal.with_first-requires-in-240-to-244
with_first-requires-in-240-to-244 c = omega (arith, fit_most c.args.s.now c.args.i _ _ _ c.fit_after-in-240-to-244.ensures)

pub returns-in-0-to-127 : goal.returns-in-0-to-127
returns-in-0-to-127 c = step_ascii _ _ (omega arith)

pub returns-in-194-to-223 : goal.returns-in-194-to-223
unfolding ranges
returns-in-194-to-223 c = rw c.with_first.ensures (by_trails _ _ 1 0x80 0xBF 0 _ (omega arith) refl c.fit_after.ensures)

pub returns-in-224-to-239 : goal.returns-in-224-to-239
returns-in-224-to-239 c =
    let r = row_of_3 (get_or c.args.s.now c.args.i 0) (omega arith) (omega arith) in
    rw c.with_first-in-224-to-239.ensures (by_trails _ _ r.k _ _ 1 _ r.passed r.trails (rw (c.lowest_after.ensures, c.highest_after.ensures) at c.fit_after-in-224-to-239.ensures))

pub returns-in-240-to-244 : goal.returns-in-240-to-244
returns-in-240-to-244 c =
    let r = row_of_4 (get_or c.args.s.now c.args.i 0) (omega arith) (omega arith) in
    rw c.with_first-in-240-to-244.ensures (by_trails _ _ r.k _ _ 2 _ r.passed r.trails (rw (c.lowest_after-in-240-to-244.ensures, c.highest_after-in-240-to-244.ensures) at c.fit_after-in-240-to-244.ensures))

pub returns-in_default : goal.returns-in_default
returns-in_default c = step_none _ _ 1 (omega arith)

pub returns-in_default-2 : goal.returns-in_default-2
returns-in_default-2 c = step_none _ _ 9 (omega arith)
