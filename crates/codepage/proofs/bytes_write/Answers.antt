use native.Mathlib.Omega.{arith}
use Rattle.buffer.proofs.Writing.{all, end}
use Rattle.codepage.proofs.ByteText.{turn_fits, turn, byte_end}
use Rattle.codepage.proofs.bytes_write.Goals as goal

pub write_small-o-requires : goal.write_small-o-requires
write_small-o-requires g c =
    (omega (arith, c.code_point-v.ensures.1), turn_fits g.P.CodePage.point c.args.s.now c.loop-b.b-index c.loop-b.invariant c.loop-b-test.true c.code_point-v.result c.code_point-v.ensures.0)

pub loop-b-preserved : goal.loop-b-preserved
loop-b-preserved g c = turn g.P.CodePage.point c.args.s.now c.loop-b.b-index c.loop-b.invariant c.loop-b-test.true c.code_point-v.result c.code_point-v.ensures.0 c.write_small-o.new.out c.write_small-o.ensures.bytes c.write_small-o.result c.write_small-o.ensures.count

pub returns : goal.returns
returns g c =
    let done = byte_end g.P.CodePage.point _ _ c.loop-b-test.false in record { count = all c.loop-b.invariant done; bytes = end c.loop-b.invariant done }
