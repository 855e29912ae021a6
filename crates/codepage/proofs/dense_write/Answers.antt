use Prim.Native.Nat.{◌+◌, ◌≤◌, ◌<◌}
use mathlib.Core.Path.{◌≡◌, refl}
use native.Mathlib.Omega.{arith}
use lib.ListN.{length, length-set}
use Rattle.buffer.proofs.Writing.{all, end}
use Rattle.codepage.proofs.Dense.{front_length, front_point, dense_room, dense_few, dense_turn, last_fits, last_turn}
use Rattle.codepage.proofs.dense_write.Goals as goal

pub bounds-out-p : goal.bounds-out-p
bounds-out-p g c =
    let left : c.loop-b.b-index + 1 < length c.args.s.now = omega (arith, c.loop-b-test.true, front_length c.args.s.now c.requires.0) in
    omega (arith, dense_room g.P.CodePage.point g.met.P.CodePage.small c.args.s.now c.type_inv.s c.loop-b.b-index c.loop-b.invariant.1 left)

pub bounds-out-o : goal.bounds-out-o
bounds-out-o g c =
    let left : c.loop-b.b-index + 1 < length c.args.s.now = omega (arith, c.loop-b-test.true, front_length c.args.s.now c.requires.0) in
    simp length-set (omega (arith, dense_room g.P.CodePage.point g.met.P.CodePage.small c.args.s.now c.type_inv.s c.loop-b.b-index c.loop-b.invariant.1 left))

pub overflow_add-o : goal.overflow_add-o
overflow_add-o g c =
    let left : c.loop-b.b-index + 1 < length c.args.s.now = omega (arith, c.loop-b-test.true, front_length c.args.s.now c.requires.0) in
    let few : c.encode-t.result.count ≤ 2 = dense_few g.P.CodePage.point g.met.P.CodePage.small c.args.s.now c.type_inv.s c.loop-b.b-index c.loop-b.invariant.1 left _ (front_point g.P.CodePage.point c.args.s.now c.loop-b.b-index left) c.encode-t.result.count c.encode-t.ensures.count in
    omega (arith, few, dense_room g.P.CodePage.point g.met.P.CodePage.small c.args.s.now c.type_inv.s c.loop-b.b-index c.loop-b.invariant.1 left)

pub loop-b-preserved : goal.loop-b-preserved
loop-b-preserved g c =
    let left : c.loop-b.b-index + 1 < length c.args.s.now = omega (arith, c.loop-b-test.true, front_length c.args.s.now c.requires.0) in
    let t = c.encode-t in
    (c.loop-b.invariant.0, dense_turn g.P.CodePage.point g.met.P.CodePage.small c.args.s.now c.type_inv.s c.loop-b.b-index c.loop-b.invariant.1 left _ (front_point g.P.CodePage.point c.args.s.now c.loop-b.b-index left) t.result.count t.ensures.count t.result.first t.ensures.first t.result.second t.ensures.second)

pub write_small-requires : goal.write_small-requires
write_small-requires g c =
    let there : c.loop-b.b-index + 1 ≡ length c.args.s.now = omega (arith, c.loop-b.invariant.0, c.loop-b-test.false, front_length c.args.s.now c.requires.0) in
    (omega (arith, c.code_point-z.ensures.1), last_fits g.P.CodePage.point g.met.P.CodePage.small c.args.s.now c.type_inv.s c.loop-b.b-index c.loop-b.invariant.1 there c.code_point-z.result c.code_point-z.ensures.0)

pub returns : goal.returns
returns g c =
    let there : c.loop-b.b-index + 1 ≡ length c.args.s.now = omega (arith, c.loop-b.invariant.0, c.loop-b-test.false, front_length c.args.s.now c.requires.0) in
    let z = c.code_point-z in
    let w = c.write_small in
    let whole = last_turn g.P.CodePage.point g.met.P.CodePage.small c.args.s.now c.type_inv.s c.loop-b.b-index c.loop-b.invariant.1 there z.result z.ensures.0 w.new.out w.ensures.bytes w.result w.ensures.count in
    record { count = all whole refl; bytes = end whole refl }
