-- How many bytes of the text each UTF-16 unit of a block stands for, by its two bytes and the one after them. Assumes nothing.
use Prim.Native.Nat.{ℕ, zero, suc, ◌+◌, ◌*◌, ◌-◌, ◌/◌, ◌%◌, ◌≤◌, ◌<◌}
use mathlib.Core.Bool.{Bool, true, false, not, ◌&&◌, ◌||◌}
use mathlib.Core.List.{List, ◌∷◌, ◌++◌}
use mathlib.Core.Logic.{⊎_elim}
use mathlib.Core.Path.{◌≡◌, refl, sym, ap, ◌∙◌}
use native.Mathlib.Omega.{arith}
use native.Mathlib.Numerals.{add-one}
use borrow.Author.Tests.{ltb-true, ltb-false, leb-true, leb-false, eqb-true, eqb-false, eq-eqb, ne_eqb}
use lib.Dec.{leb, ltb, eqb}
use lib.ListN.{length, drop, get_or, set, replicate}
use lib.Seq.{set_at}
use Rattle.unicode_standard.specs.Unicode.{range, within, utf16_text}
use Rattle.unicode_standard.proofs.Ranges.{never, inside, is_inside, outside}
use Rattle.std.specs.Int.{from_bool}
use Rattle.utf.specs.Utf16Code.{unit_at, single, extra_of, Extra, starts}
use Rattle.utf.proofs.Utf16Laws.{UnitLength, high_below, high_above, replaced_length, one_byte, two_bytes, three_bytes, low_or_above, pair_length}

pub bit_most : (x : Bool) → from_bool x ≤ 1
bit_most true = omega arith
bit_most false = omega arith

-- what the code of `extra` says
pub extra : (on a b c : ℕ) (m n : Bool) → m ≡ within a (range 0xD8 0xDB) → n ≡ within c (range 0xDC 0xDF) → (x y : ℕ)
    → x ≡ from_bool (not (eqb on 0) && not (m && n) && (not (eqb a 0) || leb 0x80 b)) → y ≡ from_bool (not (eqb on 0) && not (m && n) && leb 8 a) → Extra on a b c (x + y)
unfolding extra_of
extra on a b c m n em en x y ex ey = record {
  off = λ z. let e = eq-eqb on 0 z in let f : x ≡ 0 = rw e at ex in let g : y ≡ 0 = rw e at ey in omega arith;
  there = λ z. let e : eqb on 0 ≡ false = ne_eqb on 0 (λ q. omega arith) in let f = rw (e, em, en) at ex in let g = rw (e, em, en) at ey in rw (f, g);
  most = omega (arith, ex, ey, bit_most (not (eqb on 0) && not (m && n) && (not (eqb a 0) || leb 0x80 b)), bit_most (not (eqb on 0) && not (m && n) && leb 8 a));
}

-- where units begin
pub starts_even : (n i : ℕ) → i < n → get_or (starts n) (2 * i) 0 ≡ 1
unfolding starts
starts_even zero i h = let z : ⊥ = omega arith in absurd z
starts_even (suc n) zero h = refl
starts_even (suc n) (suc i) h = let e : 2 * suc i ≡ suc (suc (2 * i)) = omega arith in rw e (starts_even n i (omega arith))

pub starts_odd : (n i : ℕ) → get_or (starts n) (2 * i + 1) 0 ≡ 0
unfolding starts
starts_odd zero i = refl
starts_odd (suc n) zero = refl
starts_odd (suc n) (suc i) = let e : 2 * suc i + 1 ≡ suc (suc (2 * i + 1)) = omega arith in rw e (starts_odd n i)

starts_length : (k : ℕ) → length (starts k) ≡ 2 * k
unfolding starts
starts_length zero = refl
starts_length (suc k) = omega (arith, starts_length k)

starts_more : (k : ℕ) (l : List ℕ) → starts k ++ 1 ∷ 0 ∷ l ≡ starts (suc k) ++ l
unfolding starts
starts_more zero l = refl
starts_more (suc k) l = ap (λ (r : List ℕ). 1 ∷ 0 ∷ r) (starts_more k l)

-- one more is marked, of n
pub marked : (n k : ℕ) → k < n → set (starts k ++ replicate (2 * (n - k)) 0) (2 * k) 1 ≡ starts (k + 1) ++ replicate (2 * (n - (k + 1))) 0
marked n k h =
    let e : 2 * (n - k) ≡ suc (suc (2 * (n - (k + 1)))) = omega arith in
    rw e (set_at (starts k) 0 (0 ∷ replicate (2 * (n - (k + 1))) 0) 1 (2 * k) (starts_length k) ∙ starts_more k (replicate (2 * (n - (k + 1))) 0) ∙ rw (add-one k))

-- a unit
module _ (s : List ℕ) (i : ℕ) (k : i + 3 < length s) (small : (j : ℕ) → get_or s j 0 < 0x100) where
  abbrev a : ℕ
  a = get_or s i 0

  abbrev b : ℕ
  b = get_or s (i + 1) 0

  abbrev c : ℕ
  c = get_or s (i + 2) 0

  same : c * 256 + get_or s (i + 3) 0 ≡ unit_at s (i + 2)
  same = let e : i + 3 ≡ i + 2 + 1 = omega arith in rw e

  abbrev Says : Type 0
  Says = UnitLength s i (1 + extra_of a b c)

  in_pair : within a (range 0xD8 0xDB) ≡ true → within c (range 0xDC 0xDF) ≡ true → Says
  unfolding extra_of
  in_pair p q =
      let x = inside a (range 0xD8 0xDB) p in
      let y = inside c (range 0xDC 0xDF) q in
      rw (p, q) (pair_length s i (omega arith) (a * 256 + b) refl (omega arith) (omega (arith, small (i + 1))) k (c * 256 + get_or s (i + 3) 0) same (omega arith) (omega (arith, small (i + 3))))

  -- a unit from 800 on that begins no pair
  large : 8 ≤ a → (within a (range 0xD8 0xDB) ≡ true → within c (range 0xDC 0xDF) ≡ false) → UnitLength s i 3
  large h n = go (ltb a 0xD8) (ltb a 0xDC) refl refl
    where
      v : ℕ
      v = c * 256 + get_or s (i + 3) 0

      go : (t u : Bool) → ltb a 0xD8 ≡ t → ltb a 0xDC ≡ u → UnitLength s i 3
      go true u p q = let x = ltb-true a 0xD8 p in three_bytes s i (omega arith) (a * 256 + b) refl (omega arith) (omega (arith, small (i + 1)))
      go false false p q =
          let x = ltb-false a 0xDC q in low_or_above s i (omega arith) (a * 256 + b) refl (omega arith) (omega (arith, small i, small (i + 1)))
      go false true p q =
          let x = ltb-false a 0xD8 p in
          let y = ltb-true a 0xDC q in
          let lo : 0xD800 ≤ a * 256 + b = omega arith in
          let hi : a * 256 + b < 0xDC00 = omega (arith, small (i + 1)) in
          replaced_length s i
          (⊎_elim
          (λ z. high_below s i (omega arith) (a * 256 + b) refl lo hi k (c * 256 + get_or s (i + 3) 0) same (omega (arith, small (i + 3))))
          (λ z. high_above s i (omega arith) (a * 256 + b) refl lo hi k (c * 256 + get_or s (i + 3) 0) same (omega arith))
          (outside c (range 0xDC 0xDF) (n (is_inside a (range 0xD8 0xDB) x (omega arith)))))

  alone : single a c ≡ true → (within a (range 0xD8 0xDB) ≡ true → within c (range 0xDC 0xDF) ≡ false) → Says
  unfolding extra_of
  alone e n = go (leb 8 a) (eqb a 0) (leb 0x80 b) refl refl refl
    where
      go : (t u v : Bool) → leb 8 a ≡ t → eqb a 0 ≡ u → leb 0x80 b ≡ v → Says
      go true u v p q r =
          let x = leb-true 8 a p in
          let y : eqb a 0 ≡ false = ne_eqb a 0 (λ z. omega arith) in
          rw (e, y, p) (large x n)
      go false true true p q r =
          let x = eqb-true a 0 q in
          let y = leb-true 0x80 b r in
          rw (e, q, r, p) (two_bytes s i (omega arith) (a * 256 + b) refl (omega arith) (omega (arith, small (i + 1))))
      go false true false p q r =
          let x = eqb-true a 0 q in
          let y = leb-false 0x80 b r in
          rw (e, q, r, p) (one_byte s i (omega arith) (a * 256 + b) refl (omega arith))
      go false false v p q r =
          let x = eqb-false a 0 q in
          let y = leb-false 8 a p in
          rw (e, q, p) (two_bytes s i (omega arith) (a * 256 + b) refl (omega arith) (omega (arith, small (i + 1))))

  pub unit_extra : Says
  unit_extra = go (within a (range 0xD8 0xDB)) (within c (range 0xDC 0xDF)) refl refl
    where
      go : (t u : Bool) → within a (range 0xD8 0xDB) ≡ t → within c (range 0xDC 0xDF) ≡ u → Says
      go true true p q = in_pair p q
      go true false p q = alone (rw (p, q)) (λ z. q)
      go false u p q = alone (rw p) (λ z. never (sym p ∙ z))

-- a turn of the loop over a block's bytes
module _ (s : List ℕ) (small : (j : ℕ) → get_or s j 0 < 0x100) (i k x : ℕ) (room : 130 ≤ length s) (h : i < 128)
    (f : Extra (get_or (starts 64) i 0) (get_or s i 0) (get_or s (i + 1) 0) (get_or s (i + 2) 0) x) (l : k ≤ 2 * ((i + 1) / 2))
    (e : length (utf16_text s) ≡ (i + 1) / 2 + k + length (utf16_text (drop (2 * ((i + 1) / 2)) s))) where
  pub next : (k + x ≤ 2 * ((i + 1 + 1) / 2)) × (length (utf16_text s) ≡ (i + 1 + 1) / 2 + (k + x) + length (utf16_text (drop (2 * ((i + 1 + 1) / 2)) s)))
  next = go (eqb (i % 2) 0) refl
    where
      go : (t : Bool) → eqb (i % 2) 0 ≡ t → (k + x ≤ 2 * ((i + 1 + 1) / 2)) × (length (utf16_text s) ≡ (i + 1 + 1) / 2 + (k + x) + length (utf16_text (drop (2 * ((i + 1 + 1) / 2)) s)))
      go true q =
          let p = eqb-true (i % 2) 0 q in
          let m : 2 * (i / 2) ≡ i = omega arith in
          let now : 2 * ((i + 1) / 2) ≡ i = omega arith in
          let then : 2 * ((i + 1 + 1) / 2) ≡ i + 2 = omega arith in
          let y : x ≡ extra_of (get_or s i 0) (get_or s (i + 1) 0) (get_or s (i + 2) 0) = f.there (rw m at (starts_even 64 (i / 2) (omega arith))) in
          let u = unit_extra s i (omega arith) small in
          let g = rw now at e in
          (omega (arith, f.most), rw then (omega (arith, g, u, y)))
      go false q =
          let p = eqb-false (i % 2) 0 q in
          let m : 2 * (i / 2) + 1 ≡ i = omega arith in
          let then : (i + 1 + 1) / 2 ≡ (i + 1) / 2 = omega arith in
          let y : x ≡ 0 = f.off (rw m at (starts_odd 64 (i / 2))) in
          (omega arith, rw then (omega (arith, e, y)))
