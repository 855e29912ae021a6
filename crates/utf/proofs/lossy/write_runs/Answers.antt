use borrow.Author.Rules.{rules}
use Prim.Native.Nat.{ℕ, ◌+◌, ◌-◌, ◌^◌, ◌≤◌, ◌<◌}
use mathlib.Core.List.{List, ◌++◌}
use mathlib.Core.Path.{◌≡◌}
use native.Mathlib.Omega.{arith}
use lib.ListN.{length, take, drop, length-drop}
use Rattle.utf.specs.Lossy.{Wrote}
use Rattle.utf.proofs.AsciiLaws.{rest, rest_length}
use Rattle.utf.proofs.LossyWriting.{wrote_lent, wrote_few, wrote_end, text_least, copy_room, copied_lent}
use lib.Seq.{length-take-le}
use Rattle.utf.proofs.lossy.write_runs.Goals.{After-write_some-w, After-good_blocks-g}
use Rattle.utf.proofs.lossy.write_runs.Goals as goal

-- the buffer, where ys was written into what is lent of it from o on
abbrev over : List ℕ → ℕ → List ℕ → List ℕ
over out o ys = take o out ++ (ys ++ drop (length out - o) (drop o out))

-- some pieces are written
some : (c : After-write_some-w) → Wrote c.args.s.now c.args.out.now (over c.loop-i.out c.loop-i.o c.write_some-w.new.out) (c.loop-i.i + c.write_some-w.result.part.read) (c.loop-i.o + c.write_some-w.result.part.len) (c.loop-i.replaced + c.write_some-w.result.replaced)
some c = wrote_lent c.args.s.now c.args.out.now c.loop-i.out c.loop-i.i c.loop-i.o c.loop-i.replaced c.loop-i.invariant _ _ _ _ c.write_some-w.ensures.0

-- the run behind them is there
left : (c : After-good_blocks-g) → c.loop-i.i + c.write_some-w.result.part.read ≤ length c.args.s.now → c.loop-i.i + c.write_some-w.result.part.read + c.good_blocks-g.result ≤ length c.args.s.now
left c h = omega (arith, h, c.good_blocks-g.ensures.fits, rest_length c.args.s.now (c.loop-i.i + c.write_some-w.result.part.read))

pub overflow_add-replaced : goal.overflow_add-replaced
overflow_add-replaced c =
    let small : length c.args.out.now < 2 ^ 64 = search rules in
    omega (arith, wrote_few _ _ _ _ _ _ (some (goal.at.overflow_add-replaced c).After-write_some-w), text_least c.args.s.now, c.requires, small)

pub returns-then-s-i : goal.returns-then-s-i
returns-then-s-i c =
    let all_of = wrote_end _ _ _ _ _ _ (some (goal.at.returns-then-s-i c).After-write_some-w) c.if-s-i.true in
    record { count = all_of.0; bytes = all_of.1.0; replaced = all_of.1.1 }

pub copy-requires : goal.copy-requires
copy-requires c =
    let S : List ℕ = c.args.s.now in
    let I : ℕ = c.loop-i.i + c.write_some-w.result.part.read in
    let G : ℕ = c.good_blocks-g.result in
    let at = goal.at.copy-requires c in
    let w = some at.After-write_some-w in
    let more = left at.After-good_blocks-g w.fits in
    let same-part : I + G - I ≡ G = omega arith in
    let z : length (take G (drop I S)) ≡ G = length-take-le G (drop I S) (omega (arith, more, length-drop I S)) in
    rw same-part (omega (arith, z, copy_room _ _ _ _ _ _ w G more))

pub loop-i-preserved : goal.loop-i-preserved
loop-i-preserved c =
    let S : List ℕ = c.args.s.now in
    let I : ℕ = c.loop-i.i + c.write_some-w.result.part.read in
    let G : ℕ = c.good_blocks-g.result in
    let at = goal.at.loop-i-preserved c in
    let w = some at.After-write_some-w in
    let same-part : I + G - I ≡ G = omega arith in
    copied_lent _ _ _ _ _ _ w G (left at.After-good_blocks-g w.fits) c.copy.new.out G (omega arith) c.good_blocks-g.ensures (rw (rest S I) (rw same-part at c.copy.ensures.bytes))
