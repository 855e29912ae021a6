use Prim.Native.Nat.{ℕ, ◌+◌, ◌%◌, ◌≤◌, ◌<◌}
use mathlib.Core.Bool.{true, not}
use mathlib.Core.List.{List, ◌++◌}
use mathlib.Core.Path.{◌≡◌, ◌∙◌}
use native.Mathlib.Omega.{arith}
use lib.Dec.{eqb}
use lib.ListN.{length, drop, get_or, set, length-set}
use Rattle.unicode_standard.specs.Unicode.{range, within, utf16_text}
use Rattle.buffer.specs.Filling.{Filling}
use Rattle.buffer.proofs.Filling.{left_length, three_stored}
use Rattle.utf.specs.Utf16Code.{unit_bytes, LaidAt}
use Rattle.utf.proofs.Utf16BlockLaws.{bit_most}
use Rattle.utf.proofs.Utf16LaneLaws.{rest_after, alone_after, rest_whole, rest_three, third_byte, unit_step, ended, end_most, even_end}
use Rattle.utf.proofs.utf16.write_laid.Goals.{Else-n-eq0}
use Rattle.utf.proofs.utf16.write_laid.Goals as goal

-- the unit at i + 2 lies in the block
inside : (c : Else-n-eq0) → (c.loop-i.i < 128) × (144 ≤ length c.args.s.now)
inside c = (omega (arith, c.loop-i-test.true, end_most c.args.s.now _ c.block_end-e.ensures), c.requires.1.0)

-- three bytes more are part of the text, and have room
room : (c : Else-n-eq0) → (c.loop-i.o + 3 ≤ length (utf16_text (drop 2 c.args.s.now))) × (c.loop-i.o + 3 ≤ length c.loop-i.out)
room c =
    let w = c.loop-i.invariant.1.1.1.1.0 in
    let text : c.loop-i.o + 3 ≤ length (utf16_text (drop 2 c.args.s.now)) = omega (arith, left_length w, rest_three c.args.s.now c.loop-i.i (λ j. omega (arith, c.type_inv.s j)) (omega (arith, inside c))) in
    (text, omega (arith, text, w.long, w.room))

pub bounds-out-q : goal.bounds-out-q
bounds-out-q c = omega (arith, (room (goal.at.bounds-out-q c).Else-n-eq0).1)

pub bounds-out-p : goal.bounds-out-p
bounds-out-p c = simp length-set (omega (arith, (room (goal.at.bounds-out-p c).Else-n-eq0).1))

pub bounds-out-o : goal.bounds-out-o
bounds-out-o c = simp length-set (omega (arith, (room (goal.at.bounds-out-o c).Else-n-eq0).1))

pub loop-i-preserved : goal.loop-i-preserved
loop-i-preserved c =
    let S : List ℕ = c.args.s.now in
    let D : List ℕ = c.args.out.now in
    let I : ℕ = c.loop-i.i in
    let O : ℕ = c.loop-i.o in
    let Out : List ℕ = c.loop-i.out in
    let N : ℕ = get_or c.args.count.now I 0 in
    let w : Filling (utf16_text (drop 2 S)) D (rest_after S I) Out O = c.loop-i.invariant.1.1.1.1.0 in
    let place = inside (goal.at.loop-i-preserved c).Else-n-eq0 in
    let small : (j : ℕ) → get_or S j 0 < 0x100 = λ j. omega (arith, c.type_inv.s j) in
    let laid : LaidAt S I (get_or c.args.first.now I 0) (get_or c.args.second.now I 0) N = c.requires.0 I place.0 in
    let some : 0 < N = omega (arith, c.if-n-eq0.false) in
    let carry : within (get_or S I 0) (range 0xD8 0xDB) ≡ true → within (get_or S (I + 2) 0) (range 0xDC 0xDF) ≡ true = c.loop-i.invariant.1.1.1.0 in
    let Bytes : List ℕ = unit_bytes (get_or S (I + 1) 0) (get_or S (I + 2) 0) (get_or S (I + 3) 0) in
    let step : (rest_after S I ≡ Bytes ++ rest_after S (I + 2)) × (alone_after S I ≡ alone_after S (I + 2)) = unit_step S I small (omega (arith, place)) N some laid.count carry in
    let onward : within (get_or S (I + 2) 0) (range 0xD8 0xDB) ≡ true → within (get_or S (I + 2 + 2) 0) (range 0xDC 0xDF) ≡ true = λ h. let e : I + 2 + 2 ≡ I + 4 = omega arith in rw e (laid.count.next some h) in
    let even : I % 2 ≡ 0 → I + 2 ≤ c.block_end-e.result = λ h. even_end S _ c.block_end-e.ensures I h c.loop-i-test.true in
    let turned : c.from-changes.result ≤ 1 = omega (arith, c.from-changes.ensures, bit_most (not (eqb N c.loop-i.last))) in
    let w₁ : Filling (utf16_text (drop 2 S)) D (rest_after S (I + 2)) (set (set (set Out (O + 2) c.third_of.result) (O + 1) (get_or c.args.second.now I 0)) O (get_or c.args.first.now I 0)) (O + N) = three_stored w (room (goal.at.loop-i-preserved c).Else-n-eq0).0 Bytes (rest_after S (I + 2)) (step).0 N ((laid).count.size some (get_or S (I + 1) 0)) some (laid).count.most _ _ _ (laid).first (laid).second (λ h. c.third_of.ensures ∙ third_byte (get_or S (I + 1) 0) (get_or S (I + 2) 0) (get_or S (I + 3) 0) h) in (
      even c.loop-i.invariant.1.0,
      (
        omega (arith, c.loop-i.invariant.1.0),
        (omega (arith, turned, c.loop-i.invariant.1.1.0), (onward, (rw c.from-o.ensures w₁, c.loop-i.invariant.1.1.1.1.1 ∙ (step).1))),
      ),
    )

pub returns : goal.returns
returns c =
    let s : List ℕ = c.args.s.now in
    let e : c.loop-i.i ≡ c.block_end-e.result = omega (arith, c.loop-i.invariant.0, c.loop-i-test.false) in
    let whole = ended s c.loop-i.i (rw (← e) at c.block_end-e.ensures) c.loop-i.invariant.1.1.1.0 in
    ((rw (rest_whole s c.loop-i.i whole).0 at c.loop-i.invariant.1.1.1.1.0, c.loop-i.invariant.1.1.1.1.1 ∙ (rest_whole s c.loop-i.i whole).1), (omega (arith, c.loop-i.invariant.0, end_most s _ c.block_end-e.ensures), omega (arith, c.loop-i.invariant.0, c.loop-i.invariant.1.1.0, end_most s _ c.block_end-e.ensures)))
