use Prim.Native.Nat.{◌+◌, ◌*◌, ◌≤◌}
use mathlib.Core.Path.{◌≡◌}
use lib.ListN.{length, drop}
use Rattle.codepage.specs.CodePage.{byte_text}
use Rattle.codepage.proofs.bytes_len.Given as goal

abbrev pub invariant-loop-b : goal.invariant-loop-b
invariant-loop-b g l =
    let point = g.P.CodePage.point in
    (l.n ≤ 2 * l.b-index) × (l.n + length (byte_text point (drop l.b-index l.s)) ≡ length (byte_text point l.s))
