use Prim.Native.Nat.{◌+◌, ◌/◌, ◌%◌, ◌≤◌}
use mathlib.Core.Path.{refl, ap}
use mathlib.Core.List.{[], ◌∷◌}
use native.Mathlib.Omega.{arith}
use lib.ListN.{length, length-set}
use lib.Seq.{sets-eq}
use Rattle.unicode_standard.proofs.ScalarBytes.{utf8_one, utf8_two, utf8_three, utf8_four}
use Rattle.utf.proofs.scalar.write_scalar.Goals.{Then-v-lt128, Then-v-lt2048, Then-v-lt65536, Else-v-lt65536}
use Rattle.utf.proofs.scalar.write_scalar.Goals as goal

-- of each length: there is room
one : (c : Then-v-lt128) → 1 ≤ length c.args.out.now
one c = omega (arith, ap length (utf8_one c.args.v c.if-v-lt128.true), c.requires.1)

two : (c : Then-v-lt2048) → 2 ≤ length c.args.out.now
two c = omega (arith, ap length (utf8_two c.args.v c.if-v-lt128.false c.if-v-lt2048.true), c.requires.1)

three : (c : Then-v-lt65536) → 3 ≤ length c.args.out.now
three c = omega (arith, ap length (utf8_three c.args.v c.if-v-lt2048.false c.if-v-lt65536.true), c.requires.1)

four : (c : Else-v-lt65536) → 4 ≤ length c.args.out.now
four c = omega (arith, ap length (utf8_four c.args.v c.if-v-lt65536.false), c.requires.1)

pub bounds-out-0 : goal.bounds-out-0
bounds-out-0 c = omega (arith, one (goal.at.bounds-out-0 c).Then-v-lt128)

pub returns-then-v-lt128 : goal.returns-then-v-lt128
returns-then-v-lt128 c = rw (utf8_one c.args.v c.if-v-lt128.true) (record { count = refl; bytes = sets-eq (c.args.v ∷ []) c.args.out.now 0 (one (goal.at.returns-then-v-lt128 c).Then-v-lt128) })

pub bounds-out-0-then-v-lt2048 : goal.bounds-out-0-then-v-lt2048
bounds-out-0-then-v-lt2048 c = omega (arith, two (goal.at.bounds-out-0-then-v-lt2048 c).Then-v-lt2048)

pub bounds-out-1 : goal.bounds-out-1
bounds-out-1 c = simp length-set (omega (arith, two (goal.at.bounds-out-1 c).Then-v-lt2048))

pub returns-then-v-lt2048 : goal.returns-then-v-lt2048
returns-then-v-lt2048 c = rw (utf8_two c.args.v c.if-v-lt128.false c.if-v-lt2048.true) (record { count = refl; bytes = sets-eq ((0xC0 + c.args.v / 64) ∷ (0x80 + c.args.v % 64) ∷ []) c.args.out.now 0 (two (goal.at.returns-then-v-lt2048 c).Then-v-lt2048) })

pub bounds-out-0-then-v-lt65536 : goal.bounds-out-0-then-v-lt65536
bounds-out-0-then-v-lt65536 c = omega (arith, three (goal.at.bounds-out-0-then-v-lt65536 c).Then-v-lt65536)

pub bounds-out-1-then-v-lt65536 : goal.bounds-out-1-then-v-lt65536
bounds-out-1-then-v-lt65536 c = simp length-set (omega (arith, three (goal.at.bounds-out-1-then-v-lt65536 c).Then-v-lt65536))

pub bounds-out-2 : goal.bounds-out-2
bounds-out-2 c = simp length-set (omega (arith, three (goal.at.bounds-out-2 c).Then-v-lt65536))

pub returns-then-v-lt65536 : goal.returns-then-v-lt65536
returns-then-v-lt65536 c = rw (utf8_three c.args.v c.if-v-lt2048.false c.if-v-lt65536.true) (record { count = refl; bytes = sets-eq ((0xE0 + c.args.v / 4096) ∷ (0x80 + c.args.v / 64 % 64) ∷ (0x80 + c.args.v % 64) ∷ []) c.args.out.now 0 (three (goal.at.returns-then-v-lt65536 c).Then-v-lt65536) })

pub bounds-out-0-2 : goal.bounds-out-0-2
bounds-out-0-2 c = omega (arith, four (goal.at.bounds-out-0-2 c).Else-v-lt65536)

pub bounds-out-1-2 : goal.bounds-out-1-2
bounds-out-1-2 c = simp length-set (omega (arith, four (goal.at.bounds-out-1-2 c).Else-v-lt65536))

pub bounds-out-2-2 : goal.bounds-out-2-2
bounds-out-2-2 c = simp length-set (omega (arith, four (goal.at.bounds-out-2-2 c).Else-v-lt65536))

pub bounds-out-3 : goal.bounds-out-3
bounds-out-3 c = simp length-set (omega (arith, four (goal.at.bounds-out-3 c).Else-v-lt65536))

pub returns : goal.returns
returns c = rw (utf8_four c.args.v c.if-v-lt65536.false) (record { count = refl; bytes = sets-eq ((0xF0 + c.args.v / 262144) ∷ (0x80 + c.args.v / 4096 % 64) ∷ (0x80 + c.args.v / 64 % 64) ∷ (0x80 + c.args.v % 64) ∷ []) c.args.out.now 0 (four (goal.at.returns c).Else-v-lt65536) })
