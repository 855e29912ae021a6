use Prim.Native.Nat.{◌+◌, ◌-◌, ◌%◌, ◌≤◌}
use mathlib.Core.Bool.{true}
use mathlib.Core.Path.{◌≡◌}
use lib.ListN.{drop, get_or}
use Rattle.unicode_standard.specs.Unicode.{range, within, replacements, utf16_pieces, utf16_text}
use Rattle.buffer.specs.Filling.{Filling}
use Rattle.utf.proofs.Utf16LaneLaws.{rest_after, alone_after}
use Rattle.utf.proofs.utf16.write_laid.Given as goal

abbrev pub invariant-loop-i : goal.invariant-loop-i
invariant-loop-i l = (l.i ≤ l.e) × ((l.i % 2 ≡ 0) × ((l.changes ≤ l.i) × ((within (get_or l.s l.i 0) (range 0xD8 0xDB) ≡ true → within (get_or l.s (l.i + 2) 0) (range 0xDC 0xDF) ≡ true) × (Filling (utf16_text (drop 2 l.s)) l.initial.out (rest_after l.s l.i) l.out l.o × (replacements (utf16_pieces (drop 2 l.s)) ≡ alone_after l.s l.i)))))

abbrev pub decreases-loop-i : goal.decreases-loop-i
decreases-loop-i l = l.e - l.i
