use Prim.Native.Nat.{◌*◌}
use mathlib.Core.Path.{◌≡◌}
use lib.ListN.{length, take}
use Rattle.conversion.specs.Hex.{hex_text}
use Rattle.answers.proofs.lines.hex_bytes.Given as goal

abbrev pub invariant-loop-i : goal.invariant-loop-i
invariant-loop-i l = (length l.out ≡ length l.initial.out) × (hex_text (take l.i l.out) ≡ take (2 * l.i) l.s)
