use Prim.Native.Nat.{◌+◌}
use mathlib.Core.Path.{◌≡◌}
use lib.ListN.{length, drop}
use Rattle.codepage.specs.CodePage.{byte_text}
use Rattle.codepage.proofs.Dense.{Loose}
use Rattle.codepage.proofs.dense_write.Given as goal

abbrev pub invariant-loop-b : goal.invariant-loop-b
invariant-loop-b g l =
    let point = g.P.CodePage.point in
    (l.last + 1 ≡ length l.s) × Loose (byte_text point l.s) l.initial.out (byte_text point (drop l.b-index l.s)) l.out l.o
