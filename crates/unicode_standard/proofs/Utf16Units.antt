-- The first piece of UTF-16 code units. Assumes nothing.
use Prim.Native.Nat.{ℕ, zero, suc, ◌+◌, ◌-◌, ◌/◌, ◌%◌, ◌≤◌, ◌<◌}
use mathlib.Core.Bool.{Bool, true, false}
use mathlib.Core.List.{List, [], ◌∷◌, ◌++◌}
use mathlib.Core.Logic.{◌⊎◌, inl, inr, ⊎_elim}
use mathlib.Core.Path.{◌≡◌, refl, sym, ap, ap₂, ◌∙◌}
use native.Mathlib.Omega.{arith}
use borrow.Author.Tests.{lt-ltb, le-ltb, ltb-true, ltb-false}
use lib.Dec.{ltb}
use lib.ListN.{length, take, get_or}
use Rattle.unicode_standard.specs.Unicode.{scalar, malformed, is_scalar_value, within, First, utf16, high_surrogates, low_surrogates, pair_value, pair_of, unit_of, units, big_endian}
use Rattle.unicode_standard.proofs.Reading.{never_scalar}
use Rattle.unicode_standard.proofs.Ranges.{Scalar, scalar_ranges, is_scalar_lem, inside, is_inside, is_below, is_above, outside}
use Rattle.unicode_standard.proofs.Forms.{Leads, stands_first}

-- ---- a scalar value's code units

utf16_one : (v : ℕ) → v < 0x10000 → utf16 v ≡ v ∷ []
unfolding utf16
utf16_one v h = rw (lt-ltb v 0x10000 h)

utf16_two : (v : ℕ) → 0x10000 ≤ v → utf16 v ≡ (0xD800 + (v - 0x10000) / 0x400) ∷ (0xDC00 + (v - 0x10000) % 0x400) ∷ []
unfolding utf16
utf16_two v h = rw (le-ltb v 0x10000 h)

-- a unit that is no surrogate
plain : (u : ℕ) (us : List ℕ) → (u ≤ 0xD7FF) ⊎ (0xE000 ≤ u) → unit_of u us ≡ record { piece = scalar u; more = zero }
unfolding unit_of
plain u us (inl h) = rw (is_below u high_surrogates (omega arith), is_below u low_surrogates (omega arith))
plain u us (inr h) = rw (is_above u high_surrogates (omega arith), is_above u low_surrogates (omega arith))

pair : (u w : ℕ) (us : List ℕ) → 0xD800 ≤ u → u ≤ 0xDBFF → 0xDC00 ≤ w → w ≤ 0xDFFF → unit_of u (w ∷ us) ≡ record { piece = scalar (pair_value u w); more = 1 }
unfolding unit_of pair_of
pair u w us a b c d = rw (is_inside u high_surrogates a b, is_inside w low_surrogates c d)

pub leads : (v : ℕ) → is_scalar_value v ≡ true → Leads utf16 unit_of v
leads v h = go (ltb v 0x10000) refl
  where
    s : Scalar v
    s = scalar_ranges v h

    go : (t : Bool) → ltb v 0x10000 ≡ t → Leads utf16 unit_of v
    go true e = record {
      unit = v;
      others = [];
      code = utf16_one v (ltb-true v 0x10000 e);
      read = λ rest. plain v rest (⊎_elim (λ k. inl k) (λ k. inr k.0) s);
    }
    go false e =
        let k : 0x10000 ≤ v = ltb-false v 0x10000 e in
        let m : v ≤ 0x10FFFF = ⊎_elim (λ x. omega arith) (λ x. x.1) s in
        let x : ℕ = v - 0x10000 in
        let r : pair_value (0xD800 + x / 0x400) (0xDC00 + x % 0x400) ≡ v = omega arith in
        record {
          unit = 0xD800 + x / 0x400;
          others = (0xDC00 + x % 0x400) ∷ [];
          code = utf16_two v k;
          read = λ rest. pair (0xD800 + x / 0x400) (0xDC00 + x % 0x400) rest (omega arith) (omega arith) (omega arith) (omega arith) ∙ ap (λ (z : ℕ). record { piece = scalar z; more = 1 }) r;
        }

-- ---- what is read

abbrev Read : First → ℕ → List ℕ → ℕ → Type 0
Read f u us v = f.piece ≡ scalar v → (is_scalar_value v ≡ true) × (utf16 v ≡ u ∷ take f.more us)

-- the scalar value of a surrogate pair
pair_value_lem : (u w : ℕ) → 0xD800 ≤ u → u ≤ 0xDBFF → 0xDC00 ≤ w → w ≤ 0xDFFF
    → let v : ℕ = pair_value u w in (is_scalar_value v ≡ true) × (utf16 v ≡ u ∷ w ∷ [])
pair_value_lem u w a b c d =
    let v : ℕ = pair_value u w in
    let x : 0xD800 + (v - 0x10000) / 0x400 ≡ u = omega arith in
    let y : 0xDC00 + (v - 0x10000) % 0x400 ≡ w = omega arith in
    (is_scalar_lem v (inr (omega arith, omega arith)), utf16_two v (omega arith) ∙ ap₂ (λ (z t : ℕ). z ∷ t ∷ []) x y)

read_pair : (u : ℕ) (us : List ℕ) (v : ℕ) → 0xD800 ≤ u → u ≤ 0xDBFF → Read (pair_of u us) u us v
unfolding pair_of
read_pair u [] v a b e = never_scalar v e
read_pair u (w ∷ us) v a b e = go (within w low_surrogates) refl
  where
    go : (t : Bool) → within w low_surrogates ≡ t → (is_scalar_value v ≡ true) × (utf16 v ≡ u ∷ take (pair_of u (w ∷ us)).more (w ∷ us))
    go true q =
        let e' : scalar (pair_value u w) ≡ scalar v = rw q at e in
        let x : pair_value u w ≡ v = cc in
        let i : (0xDC00 ≤ w) × (w ≤ 0xDFFF) = inside w low_surrogates q in
        rw (q, ← x) (pair_value_lem u w a b i.0 i.1)
    go false q = never_scalar v (rw q at e)

pub unit_read : (u : ℕ) (us : List ℕ) (v : ℕ) → u < 0x10000 → Read (unit_of u us) u us v
unfolding unit_of
unit_read u us v h e = go (within u high_surrogates) refl (within u low_surrogates) refl
  where
    go : (x : Bool) → within u high_surrogates ≡ x → (y : Bool) → within u low_surrogates ≡ y → (is_scalar_value v ≡ true) × (utf16 v ≡ u ∷ take (unit_of u us).more us)
    go true q y r =
        let i : (0xD800 ≤ u) × (u ≤ 0xDBFF) = inside u high_surrogates q in
        rw q (read_pair u us v i.0 i.1 (rw q at e))
    go false q true r = never_scalar v (rw (q, r) at e)
    go false q false r =
        let e' : scalar u ≡ scalar v = rw (q, r) at e in
        let x : u ≡ v = cc in
        let s : Scalar u = ⊎_elim (λ a. inl (omega arith)) (λ a. ⊎_elim (λ b. absurd (omega arith)) (λ b. inr (omega arith, omega arith)) (outside u low_surrogates r)) (outside u high_surrogates q) in
        rw (q, ← x) (is_scalar_lem u s, utf16_one u h)

-- ---- what is malformed

pub unit_bad : (u : ℕ) (us : List ℕ) → (unit_of u us).piece ≡ malformed → (unit_of u us).more ≡ 0
unfolding unit_of pair_of
unit_bad u us e = go (within u high_surrogates) refl
  where
    pair_bad : (us : List ℕ) → (pair_of u us).piece ≡ malformed → (pair_of u us).more ≡ 0
    pair_bad [] e = refl
    pair_bad (w ∷ us) e = look (within w low_surrogates) refl
      where
        look : (t : Bool) → within w low_surrogates ≡ t → (pair_of u (w ∷ us)).more ≡ 0
        look true q = never_scalar (pair_value u w) (sym (rw q at e))
        look false q = rw q

    go : (x : Bool) → within u high_surrogates ≡ x → (unit_of u us).more ≡ 0
    go true q = rw q (pair_bad us (rw q at e))
    go false q = rw q

pub unit_longest : (u : ℕ) (us : List ℕ) → (unit_of u us).piece ≡ malformed → (k v : ℕ) (rest : List ℕ) → is_scalar_value v ≡ true → k ≤ length us → utf16 v ≡ u ∷ (take k us ++ rest) → k ≤ 0
unit_longest u us bad zero v rest h l e = omega arith
unit_longest u [] bad (suc k) v rest h l e = omega arith
unit_longest u (w ∷ us) bad (suc k) v rest h l e = go (ltb v 0x10000) refl
  where
    go : (t : Bool) → ltb v 0x10000 ≡ t → suc k ≤ 0
    go true q =
        let x : v ∷ [] ≡ u ∷ w ∷ (take k us ++ rest) = sym (utf16_one v (ltb-true v 0x10000 q)) ∙ e in
        let z : ◌≡◌ {A = ℕ} 0 1 = cc in
        omega arith
    go false q =
        let x : utf16 v ≡ u ∷ w ∷ [] = cc (utf16_two v (ltb-false v 0x10000 q)) in
        let p : (unit_of u (w ∷ us)).piece ≡ scalar v = stands_first utf16 unit_of leads v h us u (w ∷ us) (ap (λ (l : List ℕ). l ++ us) x) in
        never_scalar v (sym bad ∙ p)

-- ---- big-endian bytes

pub units_back : (us rest : List ℕ) → units (big_endian us ++ rest) ≡ us ++ units rest
unfolding units big_endian
units_back [] rest = refl
units_back (u ∷ us) rest = ap₂ (λ (z : ℕ) (zs : List ℕ). z ∷ zs) (omega arith) (units_back us rest)

pub units_below : (s : List ℕ) → ((i : ℕ) → get_or s i 0 < 0x100) → (i : ℕ) → get_or (units s) i 0 < 0x10000
unfolding units
units_below [] h i = omega arith
units_below (a ∷ []) h i = omega arith
units_below (a ∷ b ∷ s) h zero = omega (arith, h 0, h 1)
units_below (a ∷ b ∷ s) h (suc i) = units_below s (λ j. h (suc (suc j))) i
