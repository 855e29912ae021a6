use Prim.Native.Nat.{ℕ, ◌+◌, ◌-◌, ◌≤◌}
use mathlib.Core.List.{List, ◌++◌}
use mathlib.Core.Path.{◌≡◌, refl, ap, ◌∙◌}
use lib.ListN.{length, take, drop}
use Rattle.buffer.specs.Buffer.{overwritten}
use Rattle.buffer.specs.Filling.{Filling}
use Rattle.unicode_standard.specs.Unicode.{utf8, utf16_text}
use Rattle.utf.specs.Utf16Code.{Utf16Next}
use Rattle.buffer.proofs.Filling.{wrote_text, fits_rest, all, end}
use Rattle.utf.proofs.Utf16Laws.{below_surrogates, utf16_end, count_end, utf16_few}
use native.Mathlib.Omega.{arith}
use Rattle.utf.proofs.utf16.utf16_lossy_write.Goals as goal

-- the scalar value v, of n bytes, stands at i, and is written at o
module _ {s d out : List ℕ} {i o v n r : ℕ} (w : Filling (utf16_text s) d (utf16_text (drop i s)) out o) (t : Utf16Next s i v n r) where
  room : length (utf8 v) ≤ length (take (length out - o) (drop o out))
  room = fits_rest w (utf8 v) (utf16_text (drop (i + n) s)) t.here refl

  wrote-scalar : (ys : List ℕ) → ys ≡ overwritten (utf8 v) (take (length out - o) (drop o out)) → (m : ℕ) → m ≡ length (utf8 v)
      → Filling (utf16_text s) d (utf16_text (drop (i + n) s)) (take o out ++ (ys ++ drop (length out - o) (drop o out))) (o + m)
  wrote-scalar ys q m e = wrote_text w (utf8 v) (utf16_text (drop (i + n) s)) t.here ys q m e

pub write_scalar-o-requires : goal.write_scalar-o-requires
write_scalar-o-requires c =
    let next : Utf16Next c.args.s.now c.loop-i.i c.unit_at-u.result 2 0 = below_surrogates _ _ c.loop-i-test.true _ c.unit_at-u.ensures.0 c.if-u-lt55296.true in
    ((next).scalar, room c.loop-i.invariant.1.0 next)

pub loop-i-preserved-then-u-lt55296 : goal.loop-i-preserved-then-u-lt55296
loop-i-preserved-then-u-lt55296 c =
    let next : Utf16Next c.args.s.now c.loop-i.i c.unit_at-u.result 2 0 = below_surrogates _ _ c.loop-i-test.true _ c.unit_at-u.ensures.0 c.if-u-lt55296.true in (
      (next).fits,
      (
        wrote-scalar c.loop-i.invariant.1.0 next c.write_scalar-o.new.out c.write_scalar-o.ensures.bytes c.write_scalar-o.result c.write_scalar-o.ensures.count,
        omega (arith, c.loop-i.invariant.1.1, (next).part),
      ),
    )

pub write_scalar-o-requires-in-loop-i : goal.write_scalar-o-requires-in-loop-i
write_scalar-o-requires-in-loop-i c = (c.above_at-t.ensures.scalar, room c.loop-i.invariant.1.0 c.above_at-t.ensures)

pub overflow_add-replaced : goal.overflow_add-replaced
overflow_add-replaced c =
    omega (arith, c.loop-i.invariant.1.1, c.above_at-t.ensures.part, utf16_few c.args.s.now)

pub loop-i-preserved : goal.loop-i-preserved
loop-i-preserved c = (
  c.above_at-t.ensures.fits,
  (
    wrote-scalar c.loop-i.invariant.1.0 c.above_at-t.ensures c.write_scalar-o-in-loop-i.new.out c.write_scalar-o-in-loop-i.ensures.bytes c.write_scalar-o-in-loop-i.result c.write_scalar-o-in-loop-i.ensures.count,
    omega (arith, c.loop-i.invariant.1.1, c.above_at-t.ensures.part),
  ),
)

pub returns : goal.returns
returns c =
    let s : List ℕ = c.args.s.now in
    let done = utf16_end _ _ c.loop-i-test.false in record { count = all c.loop-i.invariant.1.0 done; bytes = end c.loop-i.invariant.1.0 done ∙ ap (λ (x : List ℕ). utf16_text s ++ x) c.write_varied-t.ensures.0.back; replaced = omega (arith, c.loop-i.invariant.1.1, count_end s _ c.loop-i-test.false) }
