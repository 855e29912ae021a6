-- The lengths of parts of a UTF-8 text, put together. Assumes nothing.
use Prim.Native.Nat.{ℕ, zero, suc, ◌+◌, ◌*◌, ◌-◌, ◌/◌, ◌≤◌, ◌<◌}
use mathlib.Core.Bool.{Bool, true, false, cond, ◌||◌}
use mathlib.Core.List.{List, [], ◌∷◌}
use mathlib.Core.Logic.{⊎_elim}
use mathlib.Core.Path.{◌≡◌, refl, sym, ◌∙◌}
use native.Mathlib.Omega.{arith}
use borrow.Author.Tests.{ltb-true, ltb-false, ne_eqb}
use borrow.Author.Count.{below_more}
use lib.Dec.{ltb}
use lib.ListN.{length, take, drop, get_or, length-drop}
use lib.Seq.{drop-drop, get_or-take, get_or-drop, length-take-le}
use Rattle.unicode_standard.specs.Unicode.{range, trail, within, table_3_7, utf8_text}
use Rattle.unicode_standard.proofs.Ranges.{outside}
use Rattle.buffer.proofs.Writing.{next}
use Rattle.utf.specs.Utf8Code.{trail_at, ranges, lowest_after, highest_after, PieceAt, Good}
use Rattle.utf.proofs.Utf8Laws.{Passed, dummy, past, short, step_row, step_ascii, step_none, stop_2, RowOf, row_of_3, row_of_4, lowest_least, highest_most}
use Rattle.utf.proofs.Utf8Runs.{good_length, whole_next, broken_next}
use Rattle.utf.proofs.Utf8BlockLaws.{neither}
use Rattle.utf.specs.Lossy.{NoTrail, leads, Lone, PartLength}

-- ---- a byte that begins a sequence, with no trail byte after it: malformed by itself

no_trail_at : (s : List ℕ) (j : ℕ) → within (get_or s j 0) trail ≡ false → trail_at s j 0x80 0xBF ≡ false
unfolding trail_at
no_trail_at s j e = go (ltb j (length s))
  where
    go : (t : Bool) → cond t (within (get_or s j 0) trail) false ≡ false
    go true = e
    go false = refl

-- no byte of a smaller range either
narrow : (s : List ℕ) (j low high : ℕ) → 0x80 ≤ low → high ≤ 0xBF → within (get_or s j 0) trail ≡ false → trail_at s j low high ≡ false
unfolding trail_at
narrow s j low high h k e = go (ltb j (length s))
  where
    none : within (get_or s j 0) (range low high) ≡ false
    none = ⊎_elim (λ x. short (get_or s j 0) (range low high) (omega arith)) (λ x. past (get_or s j 0) (range low high) (omega arith)) (outside (get_or s j 0) trail e)

    go : (t : Bool) → cond t (within (get_or s j 0) (range low high)) false ≡ false
    go true = none
    go false = refl

module _ (s : List ℕ) (e : within (get_or s 1 0) trail ≡ false) where
  by_row : (k low high n : ℕ) → Passed table_3_7 k (get_or s 0 0) → (get_or table_3_7 k dummy).trails ≡ ranges low high n → 0x80 ≤ low → high ≤ 0xBF → PieceAt s 0 1 false
  by_row k low high n p q h l = (rw (ne_eqb 0 (suc n) (omega arith)) at (step_row s 0 k low high n 0 p q (stop_2 s 0 low high n (narrow s 1 low high h l e))))

  by_row_of : (n : ℕ) → RowOf (get_or s 0 0) n → PieceAt s 0 1 false
  by_row_of n r =
      let b : ℕ = get_or s 0 0 in
      by_row r.k (lowest_after b) (highest_after b) n r.passed r.trails (lowest_least b) (highest_most b)

  lone : 0xC0 ≤ get_or s 0 0 → PieceAt s 0 1 false
  unfolding ranges
  lone h = go (ltb (get_or s 0 0) 0xC2) (ltb (get_or s 0 0) 0xE0) (ltb (get_or s 0 0) 0xF0) (ltb (get_or s 0 0) 0xF5) refl refl refl refl
    where
      go : (t u v w : Bool) → ltb (get_or s 0 0) 0xC2 ≡ t → ltb (get_or s 0 0) 0xE0 ≡ u → ltb (get_or s 0 0) 0xF0 ≡ v → ltb (get_or s 0 0) 0xF5 ≡ w → PieceAt s 0 1 false
      go true u v w p q r o = let x = ltb-true (get_or s 0 0) 0xC2 p in step_none s 0 1 (omega arith)
      go false true v w p q r o =
          let x = ltb-false (get_or s 0 0) 0xC2 p in
          let y = ltb-true (get_or s 0 0) 0xE0 q in
          by_row 1 0x80 0xBF 0 (omega arith) refl (omega arith) (omega arith)
      go false false true w p q r o = by_row_of 1 (row_of_3 (get_or s 0 0) (ltb-false (get_or s 0 0) 0xE0 q) (ltb-true (get_or s 0 0) 0xF0 r))
      go false false false true p q r o = by_row_of 2 (row_of_4 (get_or s 0 0) (ltb-false (get_or s 0 0) 0xF0 r) (ltb-true (get_or s 0 0) 0xF5 o))
      go false false false false p q r o = let x = ltb-false (get_or s 0 0) 0xF5 o in step_none s 0 9 (omega arith)

  -- the text of a byte that is no trail byte, where none follows
  single : 0 < length s → get_or s 0 0 < 0x100 → within (get_or s 0 0) trail ≡ false → length (utf8_text s) ≡ 1 + 2 * (get_or s 0 0 / 192) + length (utf8_text (drop 1 s))
  single h k f =
      ⊎_elim
      (λ x. omega (arith, whole_next s 0 1 h (step_ascii s 0 x)))
      (λ x. omega (arith, broken_next s 0 1 h (lone (omega arith))))
      (outside (get_or s 0 0) trail f)

-- ---- bytes none of which is a trail byte, and none follows

pub singles : (s : List ℕ) (n : ℕ) → n < length s → ((j : ℕ) → get_or s j 0 < 0x100) → ((j : ℕ) → j < suc n → within (get_or s j 0) trail ≡ false)
    → length (utf8_text s) ≡ n + 2 * leads (take n s) + length (utf8_text (drop n s))
unfolding leads
singles s zero h k t = omega arith
singles [] (suc n) h k t = let z : ⊥ = omega arith in absurd z
singles (b ∷ s) (suc n) h k t =
    omega (arith, single (b ∷ s) (t 1 (omega arith)) (omega arith) (k 0) (t 0 (omega arith)), singles s n (omega arith) (λ j. k (suc j)) (λ j q. t (suc j) (omega arith)))

pub leads_next : (s : List ℕ) (i : ℕ) → i < length s → leads (drop i s) ≡ get_or s i 0 / 192 + leads (drop (i + 1) s)
unfolding leads
leads_next s i h = rw (next s i h)

-- a byte more of those that are no trail bytes
pub none_more : (s : List ℕ) (i : ℕ) (x y : Bool) → (y ≡ false → (j : ℕ) → j < i → within (get_or s j 0) trail ≡ false) → x ≡ within (get_or s i 0) trail → (x || y) ≡ false
    → (j : ℕ) → j < i + 1 → within (get_or s j 0) trail ≡ false
none_more s i x y f q e =
    let z = neither x y e in
    below_more (λ (j : ℕ). within (get_or s j 0) trail ≡ false) i (f z.1) (sym q ∙ z.0)

-- ---- parts, one after the other

pub length_none : (s : List ℕ) → PartLength s 0 0
length_none s = record { fits = omega arith; text = omega arith; most = omega arith }

module _ (s : List ℕ) (i n : ℕ) (c : PartLength s i n) where
  pub length_at : (k m : ℕ) → i + k ≤ length s → length (utf8_text (drop i s)) ≡ m + length (utf8_text (drop (i + k) s)) → m ≤ 3 * k → PartLength s (i + k) (n + m)
  length_at k m h e l = record { fits = h; text = omega (arith, c.text, e); most = omega (arith, c.most) }

  pub length_more : (k m : ℕ) → PartLength (drop i s) k m → PartLength s (i + k) (n + m)
  length_more k m d = length_at k m (omega (arith, c.fits, d.fits, length-drop i s)) (d.text ∙ rw (drop-drop k i s)) d.most

pub good_part : (s : List ℕ) (n : ℕ) → Good n s → PartLength s n n
good_part s n g = record { fits = g.fits; text = good_length n s g; most = omega arith }

-- a block of 64 bytes, of which k are C0 or above
module _ (s : List ℕ) (i : ℕ) (h : i + 64 < length s) (b : (j : ℕ) → get_or s j 0 < 0x100) where
  abbrev block : List ℕ
  block = take (i + 64 - i) (drop i s)

  block_length : length block ≡ 64
  block_length = let z : i + 64 - i ≡ 64 = omega arith in rw z (length-take-le 64 (drop i s) (omega (arith, length-drop i s)))

  none_in : NoTrail block → within (get_or s (i + 64) 0) trail ≡ false → (j : ℕ) → j < suc 64 → within (get_or (drop i s) j 0) trail ≡ false
  none_in f e j k = go (ltb j 64) refl
    where
      go : (t : Bool) → ltb j 64 ≡ t → within (get_or (drop i s) j 0) trail ≡ false
      go true q =
          let x = ltb-true j 64 q in
          rw (← get_or-take (i + 64 - i) (drop i s) j 0 (omega arith)) (f j (omega (arith, block_length)))
      go false q =
          let x : j ≡ 64 = omega (arith, ltb-false j 64 q) in
          rw (get_or-drop i s j 0, x) e

  pub block_part : (k : ℕ) → Lone block k → within (get_or s (i + 64) 0) trail ≡ false → PartLength (drop i s) 64 (64 + 2 * k)
  block_part k l e = record {
    fits = omega (arith, length-drop i s);
    text =
        let z : i + 64 - i ≡ 64 = omega arith in
        rw (l.count, z) (singles (drop i s) 64 (omega (arith, length-drop i s)) (λ j. rw (get_or-drop i s j 0) (b (i + j))) (none_in l.none e));
    most = omega (arith, l.most, block_length);
  }
