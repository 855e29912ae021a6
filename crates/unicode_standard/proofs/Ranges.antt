-- Numbers within a range, and scalar values. Assumes nothing.
use Prim.Native.Nat.{ℕ, ◌≤◌, ◌<◌}
use mathlib.Core.Bool.{Bool, true, false, cond}
use mathlib.Core.Logic.{◌⊎◌, inl, inr}
use mathlib.Core.Path.{◌≡◌, refl, sym, subst}
use native.Mathlib.Omega.{arith}
use borrow.Author.Tests.{leb-true, leb-false, le-leb, lt-leb}
use lib.Dec.{T, leb}
use Rattle.unicode_standard.specs.Unicode.{Range, range, within, is_scalar_value}

pub never : {A : Type 0} → false ≡ true → A
never e = absurd (subst T (sym e) tt)

pub both : (x y : Bool) → cond x y false ≡ true → (x ≡ true) × (y ≡ true)
both true y e = (refl, e)
both false y e = never e

module _ (b : ℕ) (r : Range) where
  pub inside : within b r ≡ true → (r.low ≤ b) × (b ≤ r.high)
  unfolding within
  inside e =
      let h : (leb r.low b ≡ true) × (leb b r.high ≡ true) = both (leb r.low b) (leb b r.high) e in
      (leb-true r.low b h.0, leb-true b r.high h.1)

  pub is_inside : r.low ≤ b → b ≤ r.high → within b r ≡ true
  unfolding within
  is_inside h k = rw (le-leb r.low b h, le-leb b r.high k)

  pub is_below : b < r.low → within b r ≡ false
  unfolding within
  is_below h = rw (lt-leb r.low b h)

  pub is_above : r.high < b → within b r ≡ false
  unfolding within
  is_above h = go (leb r.low b)
    where
      go : (t : Bool) → cond t (leb b r.high) false ≡ false
      go true = lt-leb b r.high h
      go false = refl

  pub outside : within b r ≡ false → (b < r.low) ⊎ (r.high < b)
  unfolding within
  outside e = go (leb r.low b) refl
    where
      go : (t : Bool) → leb r.low b ≡ t → (b < r.low) ⊎ (r.high < b)
      go true q = inr (leb-false b r.high (rw q at e))
      go false q = inl (leb-false r.low b q)

-- D76's two ranges
abbrev pub Scalar : ℕ → Type 0
Scalar v = (v ≤ 0xD7FF) ⊎ ((0xE000 ≤ v) × (v ≤ 0x10FFFF))

pub scalar_ranges : (v : ℕ) → is_scalar_value v ≡ true → Scalar v
unfolding is_scalar_value
scalar_ranges v e = go (within v (range 0x0 0xD7FF)) refl
  where
    go : (t : Bool) → within v (range 0x0 0xD7FF) ≡ t → Scalar v
    go true q = inl (inside v (range 0x0 0xD7FF) q).1
    go false q = inr (inside v (range 0xE000 0x10FFFF) (rw q at e))

pub is_scalar_lem : (v : ℕ) → Scalar v → is_scalar_value v ≡ true
unfolding is_scalar_value
is_scalar_lem v (inl h) = rw (is_inside v (range 0x0 0xD7FF) (omega arith) h)
is_scalar_lem v (inr h) = rw (is_above v (range 0x0 0xD7FF) (omega arith), is_inside v (range 0xE000 0x10FFFF) h.0 h.1)
