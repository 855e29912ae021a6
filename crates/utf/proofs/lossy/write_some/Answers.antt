use Prim.Native.Nat.{ℕ, ◌+◌, ◌-◌, ◌^◌, ◌<◌}
use mathlib.Core.Bool.{true, false}
use mathlib.Core.List.{List, ◌++◌}
use mathlib.Core.Path.{refl, subst}
use borrow.Author.Rules.{rules}
use native.Mathlib.Omega.{arith}
use lib.ListN.{length, take, drop}
use Rattle.utf.specs.Lossy.{Wrote}
use Rattle.utf.specs.Utf8Code.{first_at, PieceAt, is_scalar, Coded}
use Rattle.utf.proofs.Utf8Runs.{whole_length, whole_count, broken_length, broken_count}
use Rattle.utf.proofs.LossyWriting.{wrote_lent, wrote_few, text_least, piece_room, piece_wrote}
use Rattle.utf.proofs.lossy.write_some.Goals.{After-copy_ascii-k, In-Malformed, In-WellFormed}
use Rattle.utf.proofs.lossy.write_some.Goals as goal

-- the buffer, where ys was written into what is lent of it from o on
abbrev over : List ℕ → ℕ → List ℕ → List ℕ
over out o ys = take o out ++ (ys ++ drop (length out - o) (drop o out))

-- the ASCII is copied
copied : (c : After-copy_ascii-k) → Wrote c.args.s.now c.args.out.now (over c.loop-i.out c.loop-i.o c.copy_ascii-k.new.out) (c.loop-i.i + c.copy_ascii-k.result) (c.loop-i.o + c.copy_ascii-k.result) c.loop-i.replaced
copied c =
    let v = wrote_lent c.args.s.now c.args.out.now c.loop-i.out c.loop-i.i c.loop-i.o c.loop-i.replaced c.loop-i.invariant.0 _ _ _ 0 c.copy_ascii-k.ensures in
    record { fits = v.fits; filling = v.filling; parts = omega (arith, v.parts) }

-- and the piece behind it is written: a malformed part, or a sequence
broken : (c : In-Malformed) → Wrote c.args.s.now c.args.out.now (over c.loop-i.out c.loop-i.o c.copy_ascii-k.new.out) (c.loop-i.i + c.copy_ascii-k.result) (c.loop-i.o + c.copy_ascii-k.result) c.loop-i.replaced
    → Wrote c.args.s.now c.args.out.now (over (over c.loop-i.out c.loop-i.o c.copy_ascii-k.new.out) (c.loop-i.o + c.copy_ascii-k.result) c.write_piece.new.out)
    (c.loop-i.i + c.copy_ascii-k.result + c.in-Malformed.bytes) (c.loop-i.o + c.copy_ascii-k.result + 3) (c.loop-i.replaced + 1)
broken c w =
    let S : List ℕ = c.args.s.now in
    let I : ℕ = c.loop-i.i + c.copy_ascii-k.result in
    let N : ℕ = c.in-Malformed.bytes in
    let piece : PieceAt S I N false = subst (Coded (PieceAt S I)) c.in-Malformed.is c.write_piece.ensures.piece in
    piece_wrote S c.args.out.now _ I _ _ w N false c.if-s-i.false piece _ c.write_piece.ensures.bytes 3 (broken_length S I N piece) 1 (broken_count S I N piece)

whole : (c : In-WellFormed) → Wrote c.args.s.now c.args.out.now (over c.loop-i.out c.loop-i.o c.copy_ascii-k.new.out) (c.loop-i.i + c.copy_ascii-k.result) (c.loop-i.o + c.copy_ascii-k.result) c.loop-i.replaced
    → Wrote c.args.s.now c.args.out.now (over (over c.loop-i.out c.loop-i.o c.copy_ascii-k.new.out) (c.loop-i.o + c.copy_ascii-k.result) c.write_piece.new.out)
    (c.loop-i.i + c.copy_ascii-k.result + c.in-WellFormed.n) (c.loop-i.o + c.copy_ascii-k.result + c.in-WellFormed.n) c.loop-i.replaced
    × (0 < c.in-WellFormed.n)
whole c w =
    let S : List ℕ = c.args.s.now in
    let I : ℕ = c.loop-i.i + c.copy_ascii-k.result in
    let N : ℕ = c.in-WellFormed.n in
    let piece : PieceAt S I N true = subst (Coded (PieceAt S I)) c.in-WellFormed.is c.write_piece.ensures.piece in
    let v = piece_wrote S c.args.out.now _ I _ _ w N true c.if-s-i.false piece _ c.write_piece.ensures.bytes N (whole_length S I N c.if-s-i.false piece) 0 (whole_count S I N piece) in
    (record { fits = v.fits; filling = v.filling; parts = omega (arith, v.parts) }, omega (arith, piece.0))

pub returns-then-s-i : goal.returns-then-s-i
returns-then-s-i c = (copied (goal.at.returns-then-s-i c).After-copy_ascii-k, λ h. omega (arith, c.if-s-i.true))

pub write_piece-requires : goal.write_piece-requires
write_piece-requires c =
    let w = copied (goal.at.write_piece-requires c).After-copy_ascii-k in
    (c.if-s-i.false, piece_room _ _ _ _ _ _ w _ (is_scalar (first_at c.args.s.now (c.loop-i.i + c.copy_ascii-k.result)).piece) c.if-s-i.false (refl, refl))

pub overflow_add-i-in-Malformed : goal.overflow_add-i-in-Malformed
overflow_add-i-in-Malformed c =
    let at = goal.at.overflow_add-i-in-Malformed c in
    let w = broken at.In-Malformed (copied at.After-copy_ascii-k) in
    omega (arith, w.fits)

pub overflow_add-replaced : goal.overflow_add-replaced
overflow_add-replaced c =
    let small : length c.args.out.now < 2 ^ 64 = search rules in
    omega (arith, wrote_few _ _ _ _ _ _ (copied (goal.at.overflow_add-replaced c).After-copy_ascii-k), text_least c.args.s.now, c.requires, small)

pub loop-i-preserved-in-Malformed : goal.loop-i-preserved-in-Malformed
loop-i-preserved-in-Malformed c =
    let at = goal.at.loop-i-preserved-in-Malformed c in
    (broken at.In-Malformed (copied at.After-copy_ascii-k), omega arith)

pub overflow_add-i-in-WellFormed : goal.overflow_add-i-in-WellFormed
overflow_add-i-in-WellFormed c =
    let at = goal.at.overflow_add-i-in-WellFormed c in
    let w = whole at.In-WellFormed (copied at.After-copy_ascii-k) in
    omega (arith, w.0.fits)

pub overflow_add-o-in-WellFormed : goal.overflow_add-o-in-WellFormed
overflow_add-o-in-WellFormed c =
    let at = goal.at.overflow_add-o-in-WellFormed c in
    let w = whole at.In-WellFormed (copied at.After-copy_ascii-k) in
    let small : length c.args.out.now < 2 ^ 64 = search rules in
    omega (arith, w.0.filling.before, c.requires, small)

pub returns-then-i-last-ge64 : goal.returns-then-i-last-ge64
returns-then-i-last-ge64 c =
    let at = goal.at.returns-then-i-last-ge64 c in
    let w = whole at.In-WellFormed (copied at.After-copy_ascii-k) in
    (w.0, λ h. omega (arith, w.1))

pub loop-i-preserved : goal.loop-i-preserved
loop-i-preserved c =
    let at = goal.at.loop-i-preserved c in
    let w = whole at.In-WellFormed (copied at.After-copy_ascii-k) in
    (w.0, omega (arith, c.loop-i.invariant.1))
