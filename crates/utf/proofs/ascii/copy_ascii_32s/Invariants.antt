use mathlib.Core.Path.{◌≡◌}
use lib.ListN.{drop}
use Rattle.std.specs.Slice.Iter.{chunks_exact_rest, chunks_exact_size}
use Rattle.buffer.proofs.Writing.{Writing}
use Rattle.utf.specs.Ascii.{AsciiRun}
use Rattle.utf.proofs.ascii.copy_ascii_32s.Given as goal

abbrev pub invariant-loop-block : goal.invariant-loop-block
invariant-loop-block l =
    (chunks_exact_size l.block-iterator ≡ 32) × (chunks_exact_rest l.block-iterator ≡ drop l.n l.s) × AsciiRun l.n l.s × Writing l.s l.initial.out (drop l.n l.s) l.out l.n
