-- Laws of the UTF-8 definitions of specs/Unicode.antt, for the loops over them. Assumes nothing.
use Prim.Native.Nat.{ℕ, zero, suc, ◌+◌, ◌-◌, ◌≤◌, ◌<◌}
use mathlib.Core.Bool.{Bool, true, false, cond}
use mathlib.Core.List.{List, [], ◌∷◌}
use mathlib.Core.Option.{none, some}
use Rattle.std.specs.Prelude.{Option, Some, None, is_some, IfSome, MatchOption}
use Rattle.std.proofs.Common.{Bor}
use Rattle.std.proofs.lemmas.Grind.{get_or_default_zero}
use mathlib.Core.Path.{◌≡◌, refl, sym, ap, ◌∙◌}
use native.Mathlib.Omega.{arith}
use native.Mathlib.Numerals.{add-one}
use borrow.Author.Tests.{ltb-true, ltb-false, lt-ltb, le-leb, lt-leb, ne_eqb, eqb-true, eqb-false}
use lib.Dec.{leb, ltb, eqb}
use lib.ListN.{replicate, length, drop, get_or, drop_of_length-le, length-replicate}
use lib.Seq.{drop-cons}
use Rattle.unicode_standard.specs.Unicode.{scalar, malformed, Range, Sequence, range, sequence, trail, within, table_3_7, sequence_in, fit, first_by, first_of}
use Rattle.utf.specs.Utf8Code.{trail_at, first_at, is_scalar, ranges, PieceAt, fit_after, lowest_after, highest_after, with_first, Coded, Common}
use Rattle.utf.specs.declared.utf8.Standing.TheVariants.{WellFormed, Malformed}

-- ---- which row of the table a byte begins

-- b lies past the first k rows and in the next
abbrev pub Passed : List Sequence → ℕ → ℕ → Type 0
Passed [] k b = ⊥
Passed (r ∷ rs) zero b = (r.first.low ≤ b) × (b ≤ r.first.high)
Passed (r ∷ rs) (suc k) b = (r.first.high < b) × Passed rs k b

-- b lies past the first k rows and before all others
abbrev pub Between : List Sequence → ℕ → ℕ → Type 0
Between [] k b = Unit {0}
Between (r ∷ rs) zero b = (b < r.first.low) × Between rs zero b
Between (r ∷ rs) (suc k) b = (r.first.high < b) × Between rs k b

abbrev pub dummy : Sequence
dummy = sequence (range 0 0) 0 []

cond_same : (t : Bool) → cond t false false ≡ false
cond_same true = refl
cond_same false = refl

pub past : (b : ℕ) (r : Range) → r.high < b → within b r ≡ false
unfolding within
past b r h = rw (lt-leb b r.high h) (cond_same (leb r.low b))

pub short : (b : ℕ) (r : Range) → b < r.low → within b r ≡ false
unfolding within
short b r h = rw (lt-leb r.low b h)

pub inside : (b : ℕ) (r : Range) → r.low ≤ b → b ≤ r.high → within b r ≡ true
unfolding within
inside b r h k = simp (le-leb r.low b h, le-leb b r.high k)

pub row_at : (rs : List Sequence) (k b : ℕ) → Passed rs k b → sequence_in rs b ≡ some (get_or rs k dummy)
unfolding sequence_in
row_at [] k b h = absurd h
row_at (r ∷ rs) zero b h = rw (inside b r.first h.0 h.1)
row_at (r ∷ rs) (suc k) b h = rw (past b r.first h.0) (row_at rs k b h.1)

pub row_none : (rs : List Sequence) (k b : ℕ) → Between rs k b → sequence_in rs b ≡ none
unfolding sequence_in
row_none [] k b h = refl
row_none (r ∷ rs) zero b h = rw (short b r.first h.0) (row_none rs zero b h.1)
row_none (r ∷ rs) (suc k) b h = rw (past b r.first h.0) (row_none rs k b h.1)

-- ---- trail bytes at a position

pub fit_at : (r : Range) (rs : List Range) (s : List ℕ) (j : ℕ)
    → fit (r ∷ rs) (drop j s) ≡ cond (trail_at s j r.low r.high) (suc (fit rs (drop (suc j) s))) zero
unfolding fit trail_at
fit_at r rs s j = go (ltb j (length s)) refl
  where
    go : (t : Bool) → ltb j (length s) ≡ t → fit (r ∷ rs) (drop j s) ≡ cond (trail_at s j r.low r.high) (suc (fit rs (drop (suc j) s))) zero
    go true e = rw (e, drop-cons s j 0 (ltb-true j (length s) e))
    go false e = rw (e, drop_of_length-le s (ltb-false j (length s) e))

-- ---- what stands at a position, by the row that its first byte begins

is_scalar_cond : (t : Bool) (v : ℕ) → is_scalar (cond t (scalar v) malformed) ≡ t
is_scalar_cond true v = refl
is_scalar_cond false v = refl

by_row : (s : List ℕ) (i : ℕ) (r : Sequence) → sequence_in table_3_7 (get_or s i 0) ≡ some r → (n : ℕ) → n ≡ fit r.trails (drop (suc i) s) → PieceAt s i (suc n) (eqb n (length r.trails))
unfolding first_at first_of first_by
by_row s i r e n q = rw (e, q) (refl, sym (is_scalar_cond (eqb (fit r.trails (drop (suc i) s)) (length r.trails)) _))

pub step_row : (s : List ℕ) (i k low high n m : ℕ) → Passed table_3_7 k (get_or s i 0) → (get_or table_3_7 k dummy).trails ≡ ranges low high n
    → m ≡ fit_after s i low high n → PieceAt s i (suc m) (eqb m (suc n))
unfolding ranges
step_row s i k low high n m h e q =
    let p : suc n ≡ length (get_or table_3_7 k dummy).trails = ap suc (sym (length-replicate n trail)) ∙ ap length (sym e) in
    rw p (by_row s i (get_or table_3_7 k dummy) (row_at table_3_7 k (get_or s i 0) h) m (q ∙ ap (λ (rs : List Range). fit rs (drop (suc i) s)) (sym e)))

pub step_ascii : (s : List ℕ) (i : ℕ) → get_or s i 0 < 128 → PieceAt s i 1 true
unfolding fit
step_ascii s i h = by_row s i (sequence (range 0x00 0x7F) 0x00 []) (row_at table_3_7 0 (get_or s i 0) (omega arith)) 0 refl

pub step_none : (s : List ℕ) (i k : ℕ) → Between table_3_7 k (get_or s i 0) → PieceAt s i 1 false
unfolding first_at first_of first_by
step_none s i k h = rw (row_none table_3_7 k (get_or s i 0) h) (refl, refl)

-- ---- a sequence's trail bytes, one after the other: low to high, and then n of any

trail_stops : (s : List ℕ) (j n : ℕ) → trail_at s j 0x80 0xBF ≡ false → fit (replicate n trail) (drop j s) ≡ 0
unfolding fit
trail_stops s j zero e = refl
trail_stops s j (suc n) e = rw (fit_at trail (replicate n trail) s j, e)

trail_fits : (s : List ℕ) (j n : ℕ) → trail_at s j 0x80 0xBF ≡ true → fit (replicate (suc n) trail) (drop j s) ≡ suc (fit (replicate n trail) (drop (suc j) s))
trail_fits s j n e = rw (fit_at trail (replicate n trail) s j, e)

module _ (s : List ℕ) (i low high n : ℕ) where
  abbrev Fit : ℕ → Type 0
  Fit m = m ≡ fit_after s i low high n

  pub stop_2 : trail_at s (i + 1) low high ≡ false → Fit 0
  unfolding ranges
  stop_2 e = sym (rw (fit_at (range low high) (replicate n trail) s (suc i), ← add-one i, e))

  -- the first fits, and k of the others: of those that are left as many fit as from there on
  abbrev pub After : ℕ → Type 0
  After k = fit_after s i low high n ≡ suc (k + fit (replicate (n - k) trail) (drop (i + 2 + k) s))

  pub first_fits : trail_at s (i + 1) low high ≡ true → After 0
  unfolding ranges
  first_fits e =
      let z : i + 2 + 0 ≡ suc (suc i) = omega arith in
      let y : n - 0 ≡ n = omega arith in
      let q : fit_after s i low high n ≡ suc (fit (replicate (n - 0) trail) (drop (i + 2 + 0) s)) = rw (z, y, fit_at (range low high) (replicate n trail) s (suc i), ← add-one i, e) in
      omega (arith, q)

  pub next_fits : (k : ℕ) → k < n → After k → trail_at s (i + 2 + k) 0x80 0xBF ≡ true → After (k + 1)
  next_fits k h a e =
      let z : n - k ≡ suc (n - (k + 1)) = omega arith in
      let y : suc (i + 2 + k) ≡ i + 2 + (k + 1) = omega arith in
      let q : fit (replicate (n - k) trail) (drop (i + 2 + k) s) ≡ suc (fit (replicate (n - (k + 1)) trail) (drop (i + 2 + (k + 1)) s)) = rw (z, trail_fits s (i + 2 + k) (n - (k + 1)) e, y) in
      omega (arith, a, q)

  pub next_stops : (k : ℕ) → After k → trail_at s (i + 2 + k) 0x80 0xBF ≡ false → Fit (k + 1)
  next_stops k a e = omega (arith, a, trail_stops s (i + 2 + k) (n - k) e)

  pub all_fit : (k : ℕ) → After k → k ≡ n → Fit (n + 1)
  unfolding fit
  all_fit k a e = let z : n - k ≡ 0 = omega arith in let q : fit (replicate (n - k) trail) (drop (i + 2 + k) s) ≡ 0 = rw z in omega (arith, a, q)

-- no more fit than are wanted
fit_count : (rs : List Range) (bs : List ℕ) → fit rs bs ≤ length rs
unfolding fit
fit_count [] bs = omega arith
fit_count (r ∷ rs) [] = omega arith
fit_count (r ∷ rs) (b ∷ bs) = go (within b r) (fit_count rs bs)
  where
    go : (t : Bool) → fit rs bs ≤ length rs → cond t (suc (fit rs bs)) zero ≤ suc (length rs)
    go true h = omega arith
    go false h = omega arith

pub fit_most : (s : List ℕ) (i low high n : ℕ) {m : ℕ} → m ≡ fit_after s i low high n → m ≤ suc n
unfolding ranges
fit_most s i low high n e = omega (arith, e, fit_count (ranges low high n) (drop (suc i) s), length-replicate n trail)

-- ---- the row of a first byte of three or four, by the lowest and the highest byte after it

pub record RowOf (b n : ℕ) : Type 0 where
  pub k : ℕ
  pub passed : Passed table_3_7 k b
  pub trails : (get_or table_3_7 k dummy).trails ≡ ranges (lowest_after b) (highest_after b) n

pub row_of_3 : (b : ℕ) → 0xE0 ≤ b → b < 0xF0 → RowOf b 1
unfolding ranges
row_of_3 b h l = go (eqb b 0xE0) (ltb b 0xED) (eqb b 0xED) refl refl refl
  where
    go : (t u v : Bool) → eqb b 0xE0 ≡ t → ltb b 0xED ≡ u → eqb b 0xED ≡ v → RowOf b 1
    go true u v p q r =
        let x = eqb-true b 0xE0 p in
        record { k = 2; passed = omega arith; trails = simp (p, ne_eqb b 0xED (omega arith), ne_eqb b 0xF4 (omega arith)) }
    go false true v p q r =
        let x = eqb-false b 0xE0 p in
        let y = ltb-true b 0xED q in
        record { k = 3; passed = omega arith; trails = simp (p, ne_eqb b 0xED (omega arith), ne_eqb b 0xF0 (omega arith), ne_eqb b 0xF4 (omega arith)) }
    go false false true p q r =
        let x = eqb-true b 0xED r in
        record { k = 4; passed = omega arith; trails = simp (p, r, ne_eqb b 0xF0 (omega arith)) }
    go false false false p q r =
        let x = eqb-false b 0xED r in
        let y = ltb-false b 0xED q in
        record { k = 5; passed = omega arith; trails = simp (p, r, ne_eqb b 0xF0 (omega arith), ne_eqb b 0xF4 (omega arith)) }

pub row_of_4 : (b : ℕ) → 0xF0 ≤ b → b < 0xF5 → RowOf b 2
unfolding ranges
row_of_4 b h l = go (eqb b 0xF0) (eqb b 0xF4) refl refl
  where
    go : (t u : Bool) → eqb b 0xF0 ≡ t → eqb b 0xF4 ≡ u → RowOf b 2
    go true u p q =
        let x = eqb-true b 0xF0 p in
        record { k = 6; passed = omega arith; trails = simp (p, ne_eqb b 0xE0 (omega arith), ne_eqb b 0xED (omega arith), ne_eqb b 0xF4 (omega arith)) }
    go false true p q =
        let x = eqb-true b 0xF4 q in
        record { k = 8; passed = omega arith; trails = simp (p, q, ne_eqb b 0xE0 (omega arith), ne_eqb b 0xED (omega arith)) }
    go false false p q =
        let x = eqb-false b 0xF0 p in
        let y = eqb-false b 0xF4 q in
        record { k = 7; passed = omega arith; trails = simp (p, q, ne_eqb b 0xE0 (omega arith), ne_eqb b 0xED (omega arith)) }

pub lowest_least : (b : ℕ) → 0x80 ≤ lowest_after b
lowest_least b = go (eqb b 0xE0) (eqb b 0xF0)
  where
    go : (t u : Bool) → 0x80 ≤ cond t 0xA0 (cond u 0x90 0x80)
    go true u = omega arith
    go false true = omega arith
    go false false = omega arith

pub highest_most : (b : ℕ) → highest_after b ≤ 0xBF
highest_most b = go (eqb b 0xED) (eqb b 0xF4)
  where
    go : (t u : Bool) → cond t 0x9F (cond u 0x8F 0xBF) ≤ 0xBF
    go true u = omega arith
    go false true = omega arith
    go false false = omega arith

-- ---- what is found, by the bytes that fit after the first

coded : (s : List ℕ) (i k : ℕ) (ok : Bool) → PieceAt s i k ok → Coded (PieceAt s i) (cond ok (WellFormed k) (Malformed k))
coded s i k true p = p
coded s i k false p = p

pub by_trails : (s : List ℕ) (i k low high n m : ℕ) → Passed table_3_7 k (get_or s i 0) → (get_or table_3_7 k dummy).trails ≡ ranges low high n
    → m ≡ fit_after s i low high n → Coded (PieceAt s i) (with_first m (suc n))
by_trails s i k low high n m h e q = coded s i (m + 1) (eqb m (suc n)) (rw (add-one m) (step_row s i k low high n m h e q))

-- ---- the common sequences: two bytes, and three but for E0 and ED

-- a trail byte that is there
pub there : (s : List ℕ) (j : ℕ) → j < length s → within (get_or s j 0) trail ≡ true → trail_at s j 0x80 0xBF ≡ true
unfolding trail_at
there s j h e = rw (lt-ltb j (length s) h) e

module _ (s : List ℕ) (i : ℕ) (e1 : trail_at s (i + 1) 0x80 0xBF ≡ true) where
  pub common_2 : 0xC2 ≤ get_or s i 0 → get_or s i 0 < 0xE0 → Common s i (Some 2)
  unfolding ranges
  common_2 h k = (omega arith, (omega arith, step_row s i 1 0x80 0xBF 0 1 (omega arith) refl (all_fit s i 0x80 0xBF 0 0 (first_fits s i 0x80 0xBF 0 e1) refl)))

  pub common_3 : trail_at s (i + 2) 0x80 0xBF ≡ true → 0xE1 ≤ get_or s i 0 → get_or s i 0 < 0xF0 → (get_or s i 0 ≡ 0xED → ⊥) → Common s i (Some 3)
  unfolding ranges
  common_3 e2 h k l = (omega arith, (omega arith, go (ltb (get_or s i 0) 0xED) refl))
    where
      a : 2 ≡ fit_after s i 0x80 0xBF 1
      a = let z : i + 2 + 0 ≡ i + 2 = omega arith in all_fit s i 0x80 0xBF 1 1 (next_fits s i 0x80 0xBF 1 0 (omega arith) (first_fits s i 0x80 0xBF 1 e1) (rw z e2)) refl

      go : (t : Bool) → ltb (get_or s i 0) 0xED ≡ t → PieceAt s i 3 true
      go true p = let q : get_or s i 0 < 0xED = ltb-true (get_or s i 0) 0xED p in step_row s i 3 0x80 0xBF 1 2 (omega arith) refl a
      go false p = let q : 0xED ≤ get_or s i 0 = ltb-false (get_or s i 0) 0xED p in step_row s i 5 0x80 0xBF 1 2 (omega arith) refl a

-- the byte at j, where there is one, by what is asked of it
pub trail_by : (s : List ℕ) (j low high : ℕ) (r : Option (Bor ℕ)) (b : Bool) → is_some r ≡ ltb j (length s) → IfSome r (λ x. x.now ≡ get_or s j x.now) → MatchOption r (b ≡ false) (λ x. b ≡ within x.now (range low high)) → b ≡ trail_at s j low high
unfolding trail_at
trail_by s j low high None b h f q = rw (← h) q
trail_by s j low high (Some x) b h f q =
    let k : x.now ≡ get_or s j 0 = f ∙ get_or_default_zero s j x.now (ltb-true j (length s) (sym h)) in
    rw (← h, ← k) q
