use lib.ListN.{drop}
use Rattle.codepage.specs.CodePage.{byte_text}
use Rattle.buffer.proofs.Writing.{Writing}
use Rattle.codepage.proofs.bytes_write.Given as goal

abbrev pub invariant-loop-b : goal.invariant-loop-b
invariant-loop-b g l = let point = g.P.CodePage.point in Writing (byte_text point l.s) l.initial.out (byte_text point (drop l.b-index l.s)) l.out l.o
