use Prim.Native.Nat.{◌+◌, ◌*◌, ◌/◌, ◌≤◌}
use mathlib.Core.Path.{◌≡◌}
use lib.ListN.{length, drop}
use Rattle.unicode_standard.specs.Unicode.{utf16_text}
use Rattle.utf.proofs.utf16.block_extra.Given as goal

abbrev pub invariant-loop-i : goal.invariant-loop-i
invariant-loop-i l = (l.i ≤ 128) × (l.k ≤ 2 * ((l.i + 1) / 2)) × (length (utf16_text l.s) ≡ (l.i + 1) / 2 + l.k + length (utf16_text (drop (2 * ((l.i + 1) / 2)) l.s)))
