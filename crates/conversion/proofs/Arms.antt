-- What a function that goes by cases on the conversion shows in each. Assumes nothing.
use Prim.Native.Nat.{ℕ, ◌≤◌}
use mathlib.Core.List.{List}
use mathlib.Core.Path.{◌≡◌, sym, ap, subst, ◌∙◌}
use lib.ListN.{length}
use Rattle.buffer.specs.Buffer.{overwritten}
use Rattle.buffer.specs.declared.Written.{Written}
use Rattle.conversion.specs.declared.Conversion.{Conversion}
use Rattle.conversion.specs.Picked.{text_in, replaced_in}
use Rattle.conversion.specs.Measure.{Measures}
use Rattle.conversion.proofs.PlainText.{as_it_is}

-- the conversion p was found to be q
module _ {p q : Conversion} (e : p ≡ q) (s : List ℕ) where
  pub room : (m : ℕ) → length (text_in p s) ≤ m → length (text_in q s) ≤ m
  room m h = subst (λ (x : Conversion). length (text_in x s) ≤ m) e h

  pub wrote : (d : List ℕ) (n : ℕ) (ys : List ℕ) (r : ℕ) → n ≡ length (text_in q s) → ys ≡ overwritten (text_in q s) d → r ≡ replaced_in q s
      → (n ≡ length (text_in p s)) × ((ys ≡ overwritten (text_in p s) d) × (r ≡ replaced_in p s))
  wrote d n ys r h k l =
      (h ∙ ap (λ (x : Conversion). length (text_in x s)) (sym e), (k ∙ ap (λ (x : Conversion). overwritten (text_in x s) d) (sym e), l ∙ ap (λ (x : Conversion). replaced_in x s) (sym e)))

  -- a writer gave the length n, and nothing was replaced
  pub wrote_whole : (d : List ℕ) (n : ℕ) (ys : List ℕ) {w : Written} → w ≡ record { len = n; replaced = 0 } → n ≡ length (text_in q s) → ys ≡ overwritten (text_in q s) d → replaced_in q s ≡ 0
      → (w.len ≡ length (text_in p s)) × ((ys ≡ overwritten (text_in p s) d) × (w.replaced ≡ replaced_in p s))
  wrote_whole d n ys e₀ h k z = rw e₀ (wrote d n ys 0 h k (sym z))

  pub measured : (n : ℕ) → n ≡ length (text_in q s) → Measures p s n p
  measured n h = as_it_is p s n (h ∙ ap (λ (x : Conversion). length (text_in x s)) (sym e))
