use Prim.Native.Nat.{◌+◌, ◌-◌, ◌≤◌}
use mathlib.Core.Path.{◌≡◌}
use lib.ListN.{length, drop}
use Rattle.buffer.specs.Filling.{Filling}
use Rattle.unicode_standard.specs.Unicode.{replacements, utf16_pieces, utf16_text}
use Rattle.utf.proofs.utf16.utf16_lossy_write.Given as goal

abbrev pub invariant-loop-i : goal.invariant-loop-i
invariant-loop-i l = (l.i ≤ length l.s) × (Filling (utf16_text l.s) l.initial.out (utf16_text (drop l.i l.s)) l.out l.o × (replacements (utf16_pieces l.s) ≡ l.replaced + replacements (utf16_pieces (drop l.i l.s))))

abbrev pub decreases-loop-i : goal.decreases-loop-i
decreases-loop-i l = length l.s - l.i
