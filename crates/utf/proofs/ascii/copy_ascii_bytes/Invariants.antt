use lib.ListN.{drop}
use Rattle.unicode_standard.specs.Unicode.{utf8_text}
use Rattle.utf.specs.Ascii.{AsciiRun}
use Rattle.buffer.proofs.Writing.{Writing}
use Rattle.utf.proofs.ascii.copy_ascii_bytes.Given as goal

abbrev pub invariant-loop-i : goal.invariant-loop-i
invariant-loop-i l = AsciiRun l.i l.s × Writing (utf8_text l.s) l.initial.out (utf8_text (drop l.i l.s)) l.out l.i
