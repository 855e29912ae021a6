use Prim.Native.Nat.{ℕ}
use mathlib.Core.Path.{◌≡◌, ap, ◌∙◌}
use native.Mathlib.Omega.{arith}
use lib.ListN.{length, get_or}
use Rattle.unicode_standard.specs.Unicode.{utf8}
use Rattle.codepage.proofs.ByteText.{byte_length, byte_end}
use Rattle.codepage.proofs.bytes_len.Goals as goal

pub loop-b-preserved : goal.loop-b-preserved
loop-b-preserved g c =
    let point = g.P.CodePage.point in
    let at = c.loop-b in
    let wide : c.small_len-n.result ≡ length (utf8 (point (get_or c.args.s.now at.b-index 0))) = c.small_len-n.ensures.0 ∙ ap (λ (v : ℕ). length (utf8 v)) c.code_point.ensures.0 in
    omega (arith, wide, c.small_len-n.ensures.1, at.invariant.0, at.invariant.1, byte_length point c.args.s.now at.b-index c.loop-b-test.true)

pub returns : goal.returns
returns g c = omega (arith, c.loop-b.invariant.1, ap length (byte_end g.P.CodePage.point c.args.s.now c.loop-b.b-index c.loop-b-test.false))
