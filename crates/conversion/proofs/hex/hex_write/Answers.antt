use Prim.Native.Nat.{◌+◌, ◌*◌}
use mathlib.Core.Path.{◌≡◌, refl, sym}
use native.Mathlib.Omega.{arith}
use lib.ListN.{length-set}
use Rattle.buffer.proofs.Writing.{stored, end}
use Rattle.conversion.proofs.PlainText.{hex_length}
use Rattle.conversion.proofs.HexLaws.{hex_next, hex_end}
use Rattle.conversion.proofs.hex.hex_write.Goals as goal

pub bounds-out-i : goal.bounds-out-i
bounds-out-i c = omega (arith, hex_length c.args.s.now, c.requires)

pub bounds-out-i-in-loop-i : goal.bounds-out-i-in-loop-i
bounds-out-i-in-loop-i c = simp length-set (omega (arith, hex_length c.args.s.now, c.requires))

pub loop-i-preserved : goal.loop-i-preserved
loop-i-preserved c =
    let place : 2 * (c.loop-i.i + 1) ≡ 2 * c.loop-i.i + 1 + 1 = omega arith in
    let digits = hex_next _ _ c.loop-i-test.true _ _ c.hex_digit.ensures c.hex_digit-in-loop-i.ensures in
    rw place (stored (stored c.loop-i.invariant _ _ digits) _ _ refl)

pub returns-clause-count : goal.returns-clause-count
returns-clause-count c = sym (hex_length _)

pub returns-clause-bytes : goal.returns-clause-bytes
returns-clause-bytes c = end c.loop-i.invariant (hex_end _ _ c.loop-i-test.false)
