-- N14 over the walk (specs/Waiting.antt). What a column takes with zeros behind the row is settled, so each column that lacks bytes gets them; bytes that stood behind
-- are none, since a row that is too short has none left. Assumes nothing.
use Prim.Native.Nat.{ℕ, ◌+◌, ◌-◌, ◌≤◌, ◌<◌}
use mathlib.Core.Path.{◌≡◌, refl, sym, ap, ◌∙◌, subst, subst⁻¹}
use mathlib.Core.Bool.{true, false, true≢false}
use mathlib.Core.List.{List, [], ◌∷◌, ◌++◌, append-nil}
use mathlib.Core.Logic.{◌⊎◌, inl, inr, ⊎_elim}
use native.Mathlib.Omega.{arith}
use lib.ListN.{length, take, drop, length-drop}
use lib.Seq.{drop-append-le, drop-length}
use Rattle.std.proofs.lemmas.Bool.{cases_lt, false_from_ne_true, and_parts}
use Rattle.unicode_standard.specs.Laws.{AreBytes}
use Rattle.unicode_standard.proofs.Bytes.{bytes_drop}
use Rattle.types.specs.declared.ColumnDescriptor.{ColumnDescriptor}
use Rattle.rules.specs.OwnEnd.{all_carry_own_end}
use Rattle.rules.specs.Walk.{skip_of, column_need, cell_of, walk, walk_row}
use Rattle.rules.specs.Waiting.{TooShort, Accepts, Waiting, zero_bytes, filled_need, lacking_by, zeros_for, longest_body, Zeros, keeps_acceptance, all_keep_acceptance}
use Rattle.rules.proofs.Walks.{is_done, used_of, done_walk, short_walk, walk_step, walk_first, walk_rest, walk_rest_used, cons_done, cons_used}
use Rattle.rules.proofs.Rows.{skip_append, skip_fits, walk_row_at, row_stays}
use Rattle.rules.proofs.Zeros.{length_zeros, bytes_append, zeros_bytes, drop_zeros, column_settles, column_most}
use Rattle.rules.proofs.StaysAccepted.{column_zeros, walk_keeps}

-- ---- the walk with zeros behind its bytes

-- the first column takes k bytes, and the rest is done and has used n
pub step_finished : (start : ℕ) (c : ColumnDescriptor) (cs : List ColumnDescriptor) (at : ℕ) (s : List ℕ) (k n : ℕ) → column_need c s ≡ k → k ≤ length s
    → is_done (walk start cs (at + k) (drop k s)) ≡ true → used_of (walk start cs (at + k) (drop k s)) ≡ n
    → (is_done (walk start (c ∷ cs) at s) ≡ true) × (used_of (walk start (c ∷ cs) at s) ≡ n)
step_finished start c cs at s k n e h d u =
    let w = walk_step start c cs at s k e h in
    let p = cell_of c.nullable c at (take k s) in
    let r = walk start cs (at + k) (drop k s) in
    (ap is_done w ∙ cons_done p r ∙ d, ap used_of w ∙ cons_used p r ∙ u)

-- a walk that is too short, or has no bytes: nothing of s is left over in it
abbrev pub Spends : ℕ → List ColumnDescriptor → ℕ → List ℕ → Type 0
Spends start cs at s = (is_done (walk start cs at s) ≡ false) ⊎ (length s ≡ 0)

-- so it is behind the first column, where that is there
pub spends_rest : (start : ℕ) (c : ColumnDescriptor) (cs : List ColumnDescriptor) (at : ℕ) (s : List ℕ) (t : ℕ) → column_need c s ≡ t → t ≤ length s
    → Spends start (c ∷ cs) at s → Spends start cs (at + t) (drop t s)
spends_rest start c cs at s t e l (inl d) =
    inl (sym (cons_done (cell_of c.nullable c at (take t s)) (walk start cs (at + t) (drop t s))) ∙ sym (ap is_done (walk_step start c cs at s t e l)) ∙ d)
spends_rest start c cs at s t e l (inr z) = inr (omega (arith, z, length-drop t s))

-- and behind what it takes with zeros
spends_filled : (start : ℕ) (c : ColumnDescriptor) (cs : List ColumnDescriptor) (at : ℕ) (s : List ℕ) → Spends start (c ∷ cs) at s → Spends start cs (at + filled_need c s) (drop (filled_need c s) s)
spends_filled start c cs at s h = ⊎_elim
    (λ l. inr (omega (arith, l, length-drop (filled_need c s) s)))
    (λ l. spends_rest start c cs at s (filled_need c s) (ap (column_need c) (sym (append-nil s)) ∙ column_settles c s 0 (omega (arith, l))) l h)
    (cases_lt (length s) (filled_need c s))

-- the zeros that it lacks complete it
walk_completes : (start : ℕ) (cs : List ColumnDescriptor) (at : ℕ) (s : List ℕ) → Spends start cs at s
    → (is_done (walk start cs at (s ++ zero_bytes (lacking_by filled_need cs s))) ≡ true) × (used_of (walk start cs at (s ++ zero_bytes (lacking_by filled_need cs s))) ≡ at + (length s + lacking_by filled_need cs s))
unfolding walk lacking_by
walk_completes start [] at s h = (refl, ⊎_elim (λ d. absurd (true≢false d)) (λ l. omega arith) h)
walk_completes start (c ∷ cs) at s h = go (walk_completes start cs (at + filled_need c s) (drop (filled_need c s) s) (spends_filled start c cs at s h))
  where
    go : (is_done (walk start cs (at + filled_need c s) (drop (filled_need c s) s ++ zero_bytes (lacking_by filled_need cs (drop (filled_need c s) s)))) ≡ true)
        × (used_of (walk start cs (at + filled_need c s) (drop (filled_need c s) s ++ zero_bytes (lacking_by filled_need cs (drop (filled_need c s) s)))) ≡ at + filled_need c s + (length (drop (filled_need c s) s) + lacking_by filled_need cs (drop (filled_need c s) s)))
        → (is_done (walk start (c ∷ cs) at (s ++ zero_bytes (lacking_by filled_need (c ∷ cs) s))) ≡ true) × (used_of (walk start (c ∷ cs) at (s ++ zero_bytes (lacking_by filled_need (c ∷ cs) s))) ≡ at + (length s + lacking_by filled_need (c ∷ cs) s))
    go ih =
        let t = filled_need c s in
        let m = lacking_by filled_need cs (drop t s) in
        let k = (t - length s) + m in
        let e = column_settles c s k (omega arith) in
        let same = drop_zeros t s m in
        step_finished start c cs at (s ++ zero_bytes k) t (at + (length s + k)) e (omega (arith, length_zeros s k))
        (ap (λ (l : List ℕ). is_done (walk start cs (at + t) l)) same ∙ ih.0)
        (ap (λ (l : List ℕ). used_of (walk start cs (at + t) l)) same ∙ ih.1 ∙ omega (arith, length-drop t s))

-- and where k zeros do, it lacks no more
walk_fewer : (start : ℕ) (cs : List ColumnDescriptor) → all_keep_acceptance cs ≡ true → (at : ℕ) (s : List ℕ) (k : ℕ) → Spends start cs at s → is_done (walk start cs at (s ++ zero_bytes k)) ≡ true
    → lacking_by filled_need cs s ≤ k
unfolding lacking_by all_keep_acceptance
walk_fewer start [] own at s k h d = omega arith
walk_fewer start (c ∷ cs) own at s k h d = go (walk_fewer start cs rest) (column_zeros c (and_parts (keeps_acceptance c) (all_keep_acceptance cs) own).0 s k (omega (arith, fits, length_zeros s k)))
  where
    rest : all_keep_acceptance cs ≡ true
    rest = (and_parts (keeps_acceptance c) (all_keep_acceptance cs) own).1

    fits : column_need c (s ++ zero_bytes k) ≤ length (s ++ zero_bytes k)
    fits = walk_first start c cs at (s ++ zero_bytes k) d

    -- what is done behind the first column
    behind : (t : ℕ) (l : List ℕ) → column_need c (s ++ zero_bytes k) ≡ t → drop t (s ++ zero_bytes k) ≡ l → is_done (walk start cs (at + t) l) ≡ true
    behind t l e f =
        subst (λ (x : List ℕ). is_done (walk start cs (at + t) x) ≡ true) f
        (subst (λ (i : ℕ). is_done (walk start cs (at + i) (drop i (s ++ zero_bytes k))) ≡ true) e (walk_rest start c cs at (s ++ zero_bytes k) d))

    go : ((at : ℕ) (s : List ℕ) (k : ℕ) → Spends start cs at s → is_done (walk start cs at (s ++ zero_bytes k)) ≡ true → lacking_by filled_need cs s ≤ k)
        → (filled_need c s ≤ length s + k) ⊎ ((column_need c (s ++ zero_bytes k) ≡ length s + k) × (column_need c s ≡ length s) × (1 ≤ length s))
        → (filled_need c s - length s) + lacking_by filled_need cs (drop (filled_need c s) s) ≤ k
    go ih (inl l) =
        let t = filled_need c s in
        let j = k - (t - length s) in
        let m : k ≡ (t - length s) + j = omega (arith, l) in
        let r = behind t (drop t s ++ zero_bytes j) (column_settles c s k l) (ap (λ (i : ℕ). drop t (s ++ zero_bytes i)) m ∙ drop_zeros t s j) in
        omega (arith, m, ih (at + t) (drop t s) j (spends_filled start c cs at s h) r)
    go ih (inr x) =
        let n = length s + k in
        let all : drop n (s ++ zero_bytes k) ≡ [] = ap (λ (i : ℕ). drop i (s ++ zero_bytes k)) (sym (length_zeros s k)) ∙ drop-length (s ++ zero_bytes k) in
        let r = walk_keeps start cs rest (at + n) (at + length s) [] [] (behind n [] x.0 all) in
        let none : drop (length s) s ≡ [] = drop-length s in
        let over = step_finished start c cs at s (length s) (used_of (walk start cs (at + length s) (drop (length s) s))) x.1 (omega arith)
        (ap (λ (l : List ℕ). is_done (walk start cs (at + length s) l)) none ∙ r)
        refl in
        absurd (⊎_elim (λ nd. true≢false (sym over.0 ∙ nd)) (λ z. omega (arith, z, x.2)) h)

-- a walk over bytes uses no more than the longest row of its columns has
walk_longest : (start : ℕ) (cs : List ColumnDescriptor) (at : ℕ) (s : List ℕ) → AreBytes s → is_done (walk start cs at s) ≡ true → used_of (walk start cs at s) ≤ at + longest_body cs
unfolding walk longest_body
walk_longest start [] at s b d = omega arith
walk_longest start (c ∷ cs) at s b d =
    let n = column_need c s in
    let ih = walk_longest start cs (at + n) (drop n s) (bytes_drop n s b) (walk_rest start c cs at s d) in
    omega (arith, ih, column_most c s b, walk_rest_used start c cs at s d)

-- ---- the row

module _ (cs : List ColumnDescriptor) (s : List ℕ) (two : 2 ≤ length s) where
  pub with_bytes : (u : List ℕ) → walk_row cs (s ++ u) ≡ walk (skip_of s) cs (skip_of s) (drop (skip_of s) s ++ u)
  with_bytes u = walk_row_at cs (s ++ u) (skip_of s) (skip_append s u two) ∙ ap (walk (skip_of s) cs (skip_of s)) (drop-append-le (skip_of s) s u (skip_fits s))

  pub completes : is_done (walk_row cs s) ≡ false
      → (is_done (walk_row cs (s ++ zero_bytes (zeros_for cs s))) ≡ true) × (used_of (walk_row cs (s ++ zero_bytes (zeros_for cs s))) ≡ length s + zeros_for cs s)
  completes d =
      let r = walk_completes (skip_of s) cs (skip_of s) (drop (skip_of s) s) (inl (sym (ap is_done (walk_row_at cs s (skip_of s) refl)) ∙ d)) in
      let w = with_bytes (zero_bytes (zeros_for cs s)) in
      (ap is_done w ∙ r.0, ap used_of w ∙ r.1 ∙ omega (arith, length-drop (skip_of s) s, skip_fits s))

  fewer_lack : all_keep_acceptance cs ≡ true → is_done (walk_row cs s) ≡ false → (k : ℕ) → k < zeros_for cs s → is_done (walk_row cs (s ++ zero_bytes k)) ≡ false
  fewer_lack own h k less = false_from_ne_true (is_done (walk_row cs (s ++ zero_bytes k)))
      (λ d.
      omega (arith, less, walk_fewer (skip_of s) cs own (skip_of s) (drop (skip_of s) s) k (inl (sym (ap is_done (walk_row_at cs s (skip_of s) refl)) ∙ h)) (sym (ap is_done (with_bytes (zero_bytes k))) ∙ d)))

row_longest : (cs : List ColumnDescriptor) (s : List ℕ) → AreBytes s → is_done (walk_row cs s) ≡ true → used_of (walk_row cs s) ≤ skip_of s + longest_body cs
row_longest cs s b d =
    let e = walk_row_at cs s (skip_of s) refl in
    omega (arith, ap used_of e, walk_longest (skip_of s) cs (skip_of s) (drop (skip_of s) s) (bytes_drop (skip_of s) s b) (sym (ap is_done e) ∙ d))

not_done : (cs : List ColumnDescriptor) (s : List ℕ) → TooShort cs s → is_done (walk_row cs s) ≡ false
not_done cs s h = ap is_done h.2

pub zeros_complete : Zeros
zeros_complete = record { settled = column_settles; complete = complete; least = least; bounded = bounded }
  where
    complete : (cs : List ColumnDescriptor) (s : List ℕ) → 2 ≤ length s → TooShort cs s → Accepts cs (s ++ zero_bytes (zeros_for cs s)) (length s + zeros_for cs s)
    complete cs s two h = let r = completes cs s two (not_done cs s h) in done_walk (walk_row cs (s ++ zero_bytes (zeros_for cs s))) (length s + zeros_for cs s) r.0 r.1

    least : (cs : List ColumnDescriptor) → all_keep_acceptance cs ≡ true → (s : List ℕ) → 2 ≤ length s → TooShort cs s → (k : ℕ) → k < zeros_for cs s → TooShort cs (s ++ zero_bytes k)
    least cs own s two h k less = short_walk (walk_row cs (s ++ zero_bytes k)) (fewer_lack cs s two own (not_done cs s h) k less)

    bounded : (cs : List ColumnDescriptor) (s : List ℕ) → AreBytes s → 2 ≤ length s → TooShort cs s → length s + zeros_for cs s ≤ skip_of s + longest_body cs
    bounded cs s b two h =
        let k = zeros_for cs s in
        let r = completes cs s two (not_done cs s h) in
        omega (arith, row_longest cs (s ++ zero_bytes k) (bytes_append s (zero_bytes k) b (zeros_bytes k)) r.0, r.1, skip_append s (zero_bytes k) two)

pub waiting : Waiting
waiting = record { completable = completable; stays = stays' }
  where
    completable : (cs : List ColumnDescriptor) → all_carry_own_end cs ≡ true → (s : List ℕ) → 2 ≤ length s → TooShort cs s
        → (u : List ℕ) × AreBytes u × Accepts cs (s ++ u) (length (s ++ u))
    completable cs own s two h =
        let k = zeros_for cs s in
        (zero_bytes k, zeros_bytes k, subst⁻¹ (Accepts cs (s ++ zero_bytes k)) (length_zeros s k) (zeros_complete.complete cs s two h))

    stays' : (cs : List ColumnDescriptor) → all_carry_own_end cs ≡ true → (s u : List ℕ) → 2 ≤ length s → (n : ℕ) → Accepts cs s n → Accepts cs (s ++ u) n
    stays' cs own s u two n a = (a.0, row_stays cs own s u two (ap is_done a.1) ∙ a.1)
