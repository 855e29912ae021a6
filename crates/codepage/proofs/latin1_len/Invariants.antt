use Prim.Native.Nat.{◌+◌}
use mathlib.Core.Path.{◌≡◌}
use lib.ListN.{length}
use Rattle.std.specs.Slice.Iter.{chunks_rest, chunks_size}
use Rattle.codepage.specs.Blocks.{block_size, highs}
use Rattle.codepage.proofs.latin1_len.Given as goal

abbrev pub invariant-loop-block : goal.invariant-loop-block
invariant-loop-block l = (chunks_size l.block-iterator ≡ block_size) × (l.n + highs (chunks_rest l.block-iterator) ≡ length l.s + highs l.s)
