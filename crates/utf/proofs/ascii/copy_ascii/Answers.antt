use Prim.Native.Nat.{ℕ, ◌+◌, ◌-◌, ◌≤◌}
use mathlib.Core.List.{List, ◌++◌}
use native.Mathlib.Omega.{arith}
use lib.ListN.{length, take, drop}
use Rattle.utf.specs.Lossy.{Wrote}
use Rattle.utf.proofs.AsciiLaws.{rest_length}
use Rattle.utf.proofs.Utf8Runs.{ascii_good}
use Rattle.utf.proofs.LossyWriting.{wrote_lent, wrote_room, text_least, copied, copied_lent}
use Rattle.utf.proofs.ascii.copy_ascii.Goals as goal

pub returns-then-s-lt8 : goal.returns-then-s-lt8
returns-then-s-lt8 c =
    let k = c.copy_ascii_bytes.result in
    let r = c.copy_ascii_bytes.ensures.run in
    copied c.args.s.now c.args.out.now _ c.requires k k r.fits (omega arith) (ascii_good k _ r) c.copy_ascii_bytes.ensures.bytes

pub copy_array-requires : goal.copy_array-requires
copy_array-requires c = (c.if-s-lt8.false, omega (arith, c.if-s-lt8.false, text_least c.args.s.now, c.requires))

pub returns-then-not-ascii_8 : goal.returns-then-not-ascii_8
returns-then-not-ascii_8 c =
    let k = c.ascii_in_8.result in
    copied c.args.s.now c.args.out.now _ c.requires 8 k c.if-s-lt8.false c.ascii_in_8.ensures.1 (ascii_good k _ c.ascii_in_8.ensures.0) c.copy_array.ensures

pub copy_ascii_32s-n-requires : goal.copy_ascii_32s-n-requires
copy_ascii_32s-n-requires c = omega (arith, text_least c.args.s.now, c.requires)

pub copy_ascii_8s-requires : goal.copy_ascii_8s-requires
copy_ascii_8s-requires c =
    let S : List ℕ = c.args.s.now in
    let D : List ℕ = c.args.out.now in
    let N : ℕ = c.copy_ascii_32s-n.result in
    let Ys : List ℕ = c.copy_ascii_32s-n.new.out in
    let run = c.copy_ascii_32s-n.ensures.run in
    let w : Wrote S D Ys N N 0 = copied S D Ys c.requires N N run.fits (omega arith) (ascii_good N S run) c.copy_ascii_32s-n.ensures.bytes in
    wrote_room S D Ys N N 0 w

pub returns-then-s-m-ge8 : goal.returns-then-s-m-ge8
returns-then-s-m-ge8 c =
    let S : List ℕ = c.args.s.now in
    let D : List ℕ = c.args.out.now in
    let N : ℕ = c.copy_ascii_32s-n.result in
    let Ys : List ℕ = c.copy_ascii_32s-n.new.out in
    let run = c.copy_ascii_32s-n.ensures.run in
    let w : Wrote S D Ys N N 0 = copied S D Ys c.requires N N run.fits (omega arith) (ascii_good N S run) c.copy_ascii_32s-n.ensures.bytes in
    let M : ℕ = N + c.copy_ascii_8s.result in
    let Zs : List ℕ = take N Ys ++ (c.copy_ascii_8s.new.out ++ drop (length Ys - N) (drop N Ys)) in
    let w₁ : Wrote S D Zs M M 0 = wrote_lent S D Ys N N 0 w _ _ _ 0 c.copy_ascii_8s.ensures in
    w₁

pub returns : goal.returns
returns c =
    let S : List ℕ = c.args.s.now in
    let D : List ℕ = c.args.out.now in
    let N : ℕ = c.copy_ascii_32s-n.result in
    let Ys : List ℕ = c.copy_ascii_32s-n.new.out in
    let run = c.copy_ascii_32s-n.ensures.run in
    let w : Wrote S D Ys N N 0 = copied S D Ys c.requires N N run.fits (omega arith) (ascii_good N S run) c.copy_ascii_32s-n.ensures.bytes in
    let M : ℕ = N + c.copy_ascii_8s.result in
    let Zs : List ℕ = take N Ys ++ (c.copy_ascii_8s.new.out ++ drop (length Ys - N) (drop N Ys)) in
    let w₁ : Wrote S D Zs M M 0 = wrote_lent S D Ys N N 0 w _ _ _ 0 c.copy_ascii_8s.ensures in
    let K : ℕ = c.copy_ascii_bytes-2.result in
    let left : M + K ≤ length S = omega (arith, (w₁).fits, c.copy_ascii_bytes-2.ensures.run.fits, rest_length S M) in
    let w₂ : Wrote S D (take M Zs ++ (c.copy_ascii_bytes-2.new.out ++ drop (length Zs - M) (drop M Zs))) (M + K) (M + K) 0 = copied_lent S D Zs M M 0 w₁ K left _ K (omega arith) (ascii_good K _ c.copy_ascii_bytes-2.ensures.run) c.copy_ascii_bytes-2.ensures.bytes in
    w₂
