use Prim.Native.Nat.{◌+◌}
use mathlib.Core.Path.{◌≡◌}
use native.Mathlib.Omega.{arith}
use lib.ListN.{length}
use Rattle.unicode_standard.specs.Unicode.{utf8_text}
use Rattle.utf.proofs.AsciiLaws.{rest}
use Rattle.utf.proofs.Bound.{utf8_bound}
use Rattle.utf.proofs.Utf8Runs.{good_length, stop_whole}
use Rattle.conversion.specs.Picked.{text_in}
use Rattle.conversion.proofs.PlainText.{utf8_plain, as_it_is}
use Rattle.conversion.proofs.utf8_measure.Goals.{After-utf8_lossy_len}
use Rattle.conversion.proofs.utf8_measure.Goals as goal

pub returns-then-is_none : goal.returns-then-is_none
returns-then-is_none c =
    let run = c.run_of-r.result in
    utf8_plain _ _ c.run_of-r.ensures.good (stop_whole run.end run.bad c.args.s.now c.run_of-r.ensures.stop c.is_none.result c.is_none.ensures c.if-is_none.true)

whole : (c : After-utf8_lossy_len) → c.run_of-r.result.end + c.utf8_lossy_len.result ≡ length (utf8_text c.args.s.now)
whole c = omega (arith, good_length c.run_of-r.result.end c.args.s.now c.run_of-r.ensures.good, rw (rest c.args.s.now c.run_of-r.result.end) at c.utf8_lossy_len.ensures)

pub overflow_add-result : goal.overflow_add-result
overflow_add-result c = omega (arith, whole (goal.at.overflow_add-result c).After-utf8_lossy_len, utf8_bound c.args.s.now, c.requires)

pub returns : goal.returns
unfolding text_in
returns c = as_it_is _ _ _ (whole (goal.at.returns c).After-utf8_lossy_len)
