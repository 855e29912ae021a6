use mathlib.Core.Path.{◌≡◌}
use lib.ListN.{drop}
use Rattle.std.specs.Slice.Iter.{chunks_exact_rest, chunks_exact_size}
use Rattle.utf.specs.Ascii.{AsciiRun}
use Rattle.utf.proofs.ascii.ascii_blocks.Given as goal

abbrev pub invariant-loop-chunk : goal.invariant-loop-chunk
invariant-loop-chunk g l = (chunks_exact_size l.chunk-iterator ≡ g.row.N) × (chunks_exact_rest l.chunk-iterator ≡ drop l.n l.s) × AsciiRun l.n l.s
