use Prim.Native.Nat.{◌-◌}
use lib.Seq.{slice}
use Rattle.buffer.proofs.Writing.{Writing}
use Rattle.packed.specs.Packed.{digit_text}
use Rattle.packed.proofs.by_digit_write.Given as goal

abbrev pub invariant-loop-k : goal.invariant-loop-k
invariant-loop-k l = Writing (slice l.a l.e (digit_text l.«data»)) l.initial.out (slice l.k l.e (digit_text l.«data»)) l.out (l.k - l.a)
