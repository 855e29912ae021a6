use Prim.Native.Nat.{◌-◌}
use native.Mathlib.Omega.{arith}
use Rattle.utf.proofs.Utf8BlockLaws.{cut_end, whole_end}
use Rattle.utf.proofs.blocks.last_end.Goals as goal

pub returns-then-s-i-ge192 : goal.returns-then-s-i-ge192
returns-then-s-i-ge192 c =
    (omega arith, cut_end c.args.s.now c.args.i c.requires.2 (c.args.i - 1) (omega arith) c.if-s-i-ge192.true)

pub returns-then-s-i-ge224 : goal.returns-then-s-i-ge224
returns-then-s-i-ge224 c =
    (omega arith, cut_end c.args.s.now c.args.i c.requires.2 (c.args.i - 2) (omega arith) (omega arith))

pub returns-then-s-i-ge240 : goal.returns-then-s-i-ge240
returns-then-s-i-ge240 c =
    (omega arith, cut_end c.args.s.now c.args.i c.requires.2 (c.args.i - 3) (omega arith) (omega arith))

pub returns : goal.returns
returns c =
    (omega arith, whole_end c.args.s.now c.args.i c.requires.0 c.if-s-i-ge192.false c.if-s-i-ge224.false (omega arith))
