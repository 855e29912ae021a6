use mathlib.Core.List.{[], append-nil}
use mathlib.Core.Path.{refl, sym}
use native.Mathlib.Omega.{arith}
use lib.ListN.{length-set}
use Rattle.buffer.proofs.Writing.{start, fits, fits_rest, all, end}
use Rattle.packed.proofs.Nibbles.{no_fraction}
use Rattle.packed.proofs.Parts.{WroteZeros, last_part, point_fits, after_point, after_zeros}
use Rattle.packed.proofs.fraction_write.Goals.{After-zeros_write-o}
use Rattle.packed.proofs.fraction_write.Goals as goal

-- the point, zeros and digits are written one after the other
pub returns-then-scale-eq0 : goal.returns-then-scale-eq0
returns-then-scale-eq0 c =
    let e = no_fraction _ _ c.if-scale-eq0.true in
    let w = start _ _ c.requires.1.1 in record { count = all w e; bytes = end w e }

pub bounds-out-0 : goal.bounds-out-0
bounds-out-0 c = point_fits _ _ _ c.requires.1.1 c.if-scale-eq0.false

pub slice_bounds-zeros_write-count : goal.slice_bounds-zeros_write-count
slice_bounds-zeros_write-count c = simp length-set (omega (arith, point_fits _ _ _ c.requires.1.1 c.if-scale-eq0.false))

pub slice_bounds-zeros_write-start : goal.slice_bounds-zeros_write-start
slice_bounds-zeros_write-start c = simp length-set (omega (arith, point_fits _ _ _ c.requires.1.1 c.if-scale-eq0.false))

pub zeros_write-o-requires : goal.zeros_write-o-requires
zeros_write-o-requires c =
    fits_rest (after_point _ _ _ c.requires.1.1 c.if-scale-eq0.false c.saturating_sub.ensures) _ _ refl refl

zeroed : (c : After-zeros_write-o) → WroteZeros c.args.scale c.args.«data».now c.args.out.now c.zeros_write-o.new.out c.zeros_write-o.result
zeroed c = after_zeros _ _ _ c.requires.1.1 c.if-scale-eq0.false c.saturating_sub.ensures c.zeros_write-o.ensures.bytes c.zeros_write-o.ensures.count

pub slice_bounds-digits_write-count : goal.slice_bounds-digits_write-count
slice_bounds-digits_write-count c = omega (arith, fits (zeroed (goal.at.slice_bounds-digits_write-count c).After-zeros_write-o))

pub slice_bounds-digits_write-start : goal.slice_bounds-digits_write-start
slice_bounds-digits_write-start c = omega (arith, fits (zeroed (goal.at.slice_bounds-digits_write-start c).After-zeros_write-o))

pub digits_write-o-requires : goal.digits_write-o-requires
digits_write-o-requires c =
    let w = zeroed (goal.at.digits_write-o-requires c).After-zeros_write-o in
    (omega (arith, c.saturating_sub-2.ensures), (omega (arith, c.requires), rw c.saturating_sub-2.ensures (fits_rest w _ [] (sym (append-nil _)) refl)))

pub returns : goal.returns
returns c =
    let w = zeroed (goal.at.returns c).After-zeros_write-o in
    let l = last_part w (rw c.saturating_sub-2.ensures at c.digits_write-o.ensures.bytes) (rw c.saturating_sub-2.ensures at c.digits_write-o.ensures.count) in
    record { count = l.0; bytes = l.1 }
