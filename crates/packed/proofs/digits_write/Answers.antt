use Prim.Native.Nat.{◌+◌, ◌/◌}
use native.Mathlib.Omega.{arith}
use Rattle.buffer.proofs.Writing.{wrote_rest}
use mathlib.Core.Path.{refl}
use Rattle.packed.proofs.Parts.{after_first, last_part}
use Rattle.packed.proofs.digits_write.Goals as goal

pub returns : goal.returns
returns c =
    let q = c.requires.1.0 in
    let w₀ = after_first _ _ _ (c.args.a / 2 + 1) (c.args.e / 2) _ c.requires.1.1 (omega arith) (omega (arith, c.if-e-a-lt8.false, c.requires)) (omega arith) q c.by_digit_write-o.ensures.bytes c.by_digit_write-o.ensures.count in
    let w₁ = wrote_rest w₀ _ _ refl _ c.by_byte_write-o.ensures.bytes _ c.by_byte_write-o.ensures.count in
    let l = last_part w₁ c.by_digit_write-o-2.ensures.bytes c.by_digit_write-o-2.ensures.count in
    record { count = l.0; bytes = l.1 }
