use mathlib.Core.List.{[]}
use mathlib.Core.Path.{refl, ap}
use native.Mathlib.Omega.{arith}
use lib.ListN.{length}
use Rattle.buffer.proofs.Writing.{start, stored, all, end}
use Rattle.packed.proofs.Nibbles.{minus, plus}
use Rattle.packed.proofs.sign_write.Goals as goal

pub bounds-out-0 : goal.bounds-out-0
bounds-out-0 c =
    omega (arith, ap length (minus c.args.«data».now c.is_minus.ensures c.if-is_minus.true), c.requires)

pub returns-then-is_minus : goal.returns-then-is_minus
returns-then-is_minus c =
    let w = stored (start _ _ c.requires.1) 0x2D [] (minus _ c.is_minus.ensures c.if-is_minus.true) in record { count = all w refl; bytes = end w refl }

pub returns : goal.returns
returns c =
    let e = plus _ c.is_minus.ensures c.if-is_minus.false in
    let w = start _ _ c.requires.1 in record { count = all w e; bytes = end w e }
