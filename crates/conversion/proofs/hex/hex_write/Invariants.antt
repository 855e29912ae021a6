use Prim.Native.Nat.{◌*◌}
use lib.ListN.{drop}
use Rattle.conversion.specs.Hex.{hex_text}
use Rattle.buffer.proofs.Writing.{Writing}
use Rattle.conversion.proofs.hex.hex_write.Given as goal

abbrev pub invariant-loop-i : goal.invariant-loop-i
invariant-loop-i l = Writing (hex_text l.s) l.initial.out (hex_text (drop l.i l.s)) l.out (2 * l.i)
