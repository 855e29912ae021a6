use Prim.Native.Nat.{◌+◌, ◌*◌}
use lib.Seq.{slice}
use Rattle.buffer.proofs.Writing.{Writing}
use Rattle.packed.specs.Packed.{digit_text}
use Rattle.packed.proofs.by_byte_write.Given as goal

abbrev pub invariant-loop-n : goal.invariant-loop-n
invariant-loop-n l =
    Writing (slice (2 * l.i) (2 * l.j) (digit_text l.«data»)) l.initial.out (slice (2 * (l.i + l.n)) (2 * l.j) (digit_text l.«data»)) l.out (2 * l.n)
