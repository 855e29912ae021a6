use Prim.Native.Nat.{◌+◌, ◌/◌, ◌%◌, ◌≤◌}
use mathlib.Core.Path.{◌≡◌, refl, ap}
use mathlib.Core.List.{[], ◌∷◌}
use native.Mathlib.Omega.{arith}
use lib.ListN.{length, length-set}
use lib.Seq.{sets-eq}
use Rattle.unicode_standard.specs.Unicode.{utf8}
use Rattle.unicode_standard.proofs.ScalarBytes.{utf8_one, utf8_two}
use Rattle.codepage.proofs.write_small.Goals as goal

pub bounds-out-0 : goal.bounds-out-0
bounds-out-0 c = omega (arith, ap length (utf8_one _ c.if-v-lt128.true), c.requires.1)

pub returns-then-v-lt128 : goal.returns-then-v-lt128
returns-then-v-lt128 c = rw (utf8_one _ c.if-v-lt128.true) (record { count = refl; bytes = sets-eq (c.args.v ∷ []) c.args.out.now 0 (omega (arith, ap length (utf8_one _ c.if-v-lt128.true), c.requires.1)) })

pub bounds-out-0-2 : goal.bounds-out-0-2
bounds-out-0-2 c =
    let two : utf8 c.args.v ≡ (0xC0 + c.args.v / 64) ∷ (0x80 + c.args.v % 64) ∷ [] = utf8_two c.args.v (omega arith) c.requires.0 in
    let room : 2 ≤ length c.args.out.now = omega (arith, ap length two, c.requires.1) in
    omega (arith, room)

pub bounds-out-1 : goal.bounds-out-1
bounds-out-1 c =
    let two : utf8 c.args.v ≡ (0xC0 + c.args.v / 64) ∷ (0x80 + c.args.v % 64) ∷ [] = utf8_two c.args.v (omega arith) c.requires.0 in
    let room : 2 ≤ length c.args.out.now = omega (arith, ap length two, c.requires.1) in
    simp length-set (omega (arith, room))

pub returns : goal.returns
returns c =
    let two : utf8 c.args.v ≡ (0xC0 + c.args.v / 64) ∷ (0x80 + c.args.v % 64) ∷ [] = utf8_two c.args.v (omega arith) c.requires.0 in
    let room : 2 ≤ length c.args.out.now = omega (arith, ap length two, c.requires.1) in rw two (record { count = refl; bytes = sets-eq ((0xC0 + c.args.v / 64) ∷ (0x80 + c.args.v % 64) ∷ []) c.args.out.now 0 room })
