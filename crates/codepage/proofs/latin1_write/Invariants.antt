use mathlib.Core.Path.{◌≡◌}
use Rattle.std.specs.Slice.Iter.{chunks_rest, chunks_size}
use Rattle.codepage.specs.Blocks.{block_size}
use Rattle.codepage.specs.CodePage.{byte_text, code_point819}
use Rattle.buffer.proofs.Writing.{Writing}
use Rattle.codepage.proofs.latin1_write.Given as goal

abbrev pub invariant-loop-block : goal.invariant-loop-block
invariant-loop-block l = (chunks_size l.block-iterator ≡ block_size) × Writing (byte_text code_point819 l.s) l.initial.out (byte_text code_point819 (chunks_rest l.block-iterator)) l.out l.o
