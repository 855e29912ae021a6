-- A float's bits. Assumes nothing.
use mathlib.Core.Path.{◌≡◌, refl, sym, ap, ◌∙◌, subst}
use mathlib.Core.Bool.{Bool, true, false, cond, beq}
use Prim.Native.Nat.{◌*◌}
use borrow.Author.Tests.{eq-eqb}
use lib.Dec.{T}
use lib.Ieee.{Float, Format, nan, inf, fin, up, down, eq, is_nan, to_bits}
use Rattle.types.specs.Held.{float_bits}

no : {A : Type 0} → false ≡ true → A
no h = absurd (subst T (sym h) tt)

-- ---- a float is equal to itself unless it is the NaN
beq_same : (s : Bool) → beq s s ≡ true
beq_same true = refl
beq_same false = refl

same_no_nan : (x : Float) → eq x x ≡ true → is_nan x ≡ false
unfolding eq is_nan
same_no_nan nan h = no h
same_no_nan (inf s) h = refl
same_no_nan (fin s m e) h = refl

other_nan : (x : Float) → eq x x ≡ false → is_nan x ≡ true
unfolding eq is_nan
other_nan nan h = refl
other_nan (inf s) h = no (sym h ∙ beq_same s)
other_nan (fin s m e) h = no (sym h ∙ rw (beq_same s, eq-eqb (m * up e * down e) (m * up e * down e) refl))

module _ (f : Format) (x : Float) where
  pub bits_of : eq x x ≡ true → to_bits f x ≡ float_bits f x
  unfolding float_bits
  bits_of h = sym (ap (λ (t : Bool). cond t 0 (to_bits f x)) (same_no_nan x h))

  pub bits_none : eq x x ≡ false → 0 ≡ float_bits f x
  unfolding float_bits
  bits_none h = sym (ap (λ (t : Bool). cond t 0 (to_bits f x)) (other_nan x h))
