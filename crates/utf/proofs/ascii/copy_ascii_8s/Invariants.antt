use mathlib.Core.Path.{◌≡◌}
use lib.ListN.{drop}
use Rattle.std.specs.Slice.Iter.{chunks_exact_rest, chunks_exact_size}
use Rattle.utf.specs.Lossy.{Wrote}
use Rattle.utf.proofs.ascii.copy_ascii_8s.Given as goal

abbrev pub invariant-loop-block : goal.invariant-loop-block
invariant-loop-block l =
    (chunks_exact_size l.block-iterator ≡ 8) × (chunks_exact_rest l.block-iterator ≡ drop l.n l.s) × Wrote l.s l.initial.out l.out l.n l.n 0
