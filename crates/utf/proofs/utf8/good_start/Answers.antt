use Prim.Native.Nat.{ℕ, ◌+◌}
use mathlib.Core.List.{List}
use Rattle.utf.specs.Utf8Code.{Good}
use Rattle.utf.proofs.AsciiLaws.{rest}
use Rattle.utf.proofs.Utf8Runs.{good_none, good_more, ascii_good, ascii_good_at}
use Rattle.utf.proofs.utf8.good_start.Goals as goal

-- `utf::utf8::good_start` meets its contract. Assumes nothing.
pub returns-then-s-le64 : goal.returns-then-s-le64
returns-then-s-le64 c = good_none _

pub returns-then-s-e-lt64 : goal.returns-then-s-e-lt64
returns-then-s-e-lt64 c =
    let S : List ℕ = c.args.s.now in
    let E : ℕ = c.ascii_blocks-e.result + c.ascii_blocks-e-2.result in
    let run : Good E S = let n = c.ascii_blocks-e.result in good_more n c.ascii_blocks-e-2.result S (ascii_good n S c.ascii_blocks-e.ensures) (ascii_good_at S n c.ascii_blocks-e-2.result c.ascii_blocks-e-2.ensures) in
    run

pub returns : goal.returns
returns c =
    let S : List ℕ = c.args.s.now in
    let E : ℕ = c.ascii_blocks-e.result + c.ascii_blocks-e-2.result in
    let run : Good E S = let n = c.ascii_blocks-e.result in good_more n c.ascii_blocks-e-2.result S (ascii_good n S c.ascii_blocks-e.ensures) (ascii_good_at S n c.ascii_blocks-e-2.result c.ascii_blocks-e-2.ensures) in
    good_more E c.good_blocks.result S run (rw (rest S E) at c.good_blocks.ensures)
