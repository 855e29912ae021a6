use mathlib.Core.List.{[]}
use mathlib.Core.Path.{refl, ap}
use native.Mathlib.Omega.{arith}
use lib.ListN.{length}
use Rattle.buffer.proofs.Writing.{start, stored, all, end}
use Rattle.packed.specs.Packed.{digit_text}
use Rattle.packed.proofs.Nibbles.{no_whole}
use Rattle.packed.proofs.whole_write.Goals as goal

-- `packed::whole_write` meets its contract. Assumes nothing.
pub bounds-out-0 : goal.bounds-out-0
bounds-out-0 c =
    omega (arith, ap length (no_whole (digit_text c.args.«data».now) c.args.w c.if-w-eq0.true), c.requires)

pub returns-then-w-eq0 : goal.returns-then-w-eq0
returns-then-w-eq0 c =
    let w = stored (start _ _ c.requires.1) 0x30 [] (no_whole _ _ c.if-w-eq0.true) in record { count = all w refl; bytes = end w refl }
