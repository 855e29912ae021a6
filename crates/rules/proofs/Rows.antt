-- The laws of a row's walk with its skip.
--     row_stays       bytes are added behind a row of at least two bytes
--     row_cuts        the bytes behind what a row used are taken away
--     row_begins      another input that begins with the bytes that a row used
--     row_shorter     a shorter beginning of at least two bytes is not done
-- Assumes nothing.
use Prim.Native.Nat.{ℕ, ◌-◌, ◌≤◌, ◌<◌}
use mathlib.Core.Path.{◌≡◌, refl, sym, ap, ◌∙◌}
use mathlib.Core.Bool.{Bool, true, false, cond, ◌&&◌}
use mathlib.Core.List.{List, ◌++◌}
use mathlib.Core.Logic.{◌⊎◌, inl, inr, ⊎_elim}
use native.Mathlib.Omega.{arith}
use lib.ListN.{length, get_or, take, drop, length-append, length-take, length-drop, take-append-drop, get_or-append}
use lib.Seq.{drop-append-le, take-take, length-take-le, get_or-take}
use lib.Dec.{leb, eqb}
use borrow.Author.Tests.{le-leb, lt-leb, eq-eqb, ne_eqb, eqb-true, eqb-false}
use Rattle.std.proofs.lemmas.Bool.{false_from_ne_true, cases_lt, and_right}
use Rattle.types.specs.declared.ColumnDescriptor.{ColumnDescriptor}
use Rattle.rules.specs.OwnEnd.{all_carry_own_end}
use Rattle.rules.specs.Walk.{walk, skip_of, walk_body, walk_row}
use Rattle.rules.proofs.Walks.{is_done, used_of, walk_used, walk_stays, walk_cuts, drop_take}

-- the skip
pub skip_two : (s : List ℕ) → 2 ≤ length s → get_or s 0 0 ≡ 255 → skip_of s ≡ 2
unfolding skip_of
skip_two s h e = rw (le-leb 2 (length s) h, eq-eqb (get_or s 0 0) 255 e)

skip_none : (s : List ℕ) → (get_or s 0 0 ≡ 255 → ⊥) → skip_of s ≡ 0
unfolding skip_of
skip_none s n = rw (ne_eqb (get_or s 0 0) 255 n, and_right (leb 2 (length s)) false refl)

is_255 : (b : ℕ) → (b ≡ 255) ⊎ (b ≡ 255 → ⊥)
is_255 b = go (eqb b 255) refl
  where
    go : (t : Bool) → eqb b 255 ≡ t → (b ≡ 255) ⊎ (b ≡ 255 → ⊥)
    go true e = inl (eqb-true b 255 e)
    go false e = inr (eqb-false b 255 e)

-- the first n bytes of s decide the skip
skip_begins : (s t : List ℕ) (n : ℕ) → 2 ≤ length s → 1 ≤ n → skip_of s ≤ n → n ≤ length s → take n t ≡ take n s → skip_of t ≡ skip_of s
skip_begins s t n two one low fits e = ⊎_elim yes' no' (is_255 (get_or s 0 0))
  where
    same : get_or t 0 0 ≡ get_or s 0 0
    same = sym (get_or-take n t 0 0 one) ∙ ap (λ (l : List ℕ). get_or l 0 0) e ∙ get_or-take n s 0 0 one

    reach : n ≤ length t
    reach = omega (arith, ap length e, length-take n t, length-take-le n s fits)

    yes' : get_or s 0 0 ≡ 255 → skip_of t ≡ skip_of s
    yes' z =
        let k = skip_two s two z in
        skip_two t (omega (arith, reach)) (same ∙ z) ∙ sym k

    no' : (get_or s 0 0 ≡ 255 → ⊥) → skip_of t ≡ skip_of s
    no' z = skip_none t (λ y. z (sym same ∙ y)) ∙ sym (skip_none s z)

-- and so do the bytes that a row used, taken alone, also where they are fewer than two
skip_short : (s : List ℕ) → length s < 2 → skip_of s ≡ 0
unfolding skip_of
skip_short s h = rw (lt-leb 2 (length s) h)

skip_cut : (s : List ℕ) (n : ℕ) → skip_of s ≤ n → n ≤ length s → skip_of (take n s) ≡ skip_of s
skip_cut s n low fits = ⊎_elim few many (cases_lt n 2)
  where
    l : length (take n s) ≡ n
    l = length-take-le n s fits

    many : 2 ≤ n → skip_of (take n s) ≡ skip_of s
    many h = skip_begins s (take n s) n (omega arith) (omega arith) low fits (take-take n n s (omega arith))

    few : n < 2 → skip_of (take n s) ≡ skip_of s
    few h = ⊎_elim (λ k. skip_short (take n s) (omega (arith, l)) ∙ sym (skip_short s k)) long (cases_lt (length s) 2)
      where
        long : 2 ≤ length s → skip_of (take n s) ≡ skip_of s
        long k = skip_short (take n s) (omega (arith, l)) ∙ sym (skip_none s (λ z. omega (arith, skip_two s k z)))

pub skip_append : (s u : List ℕ) → 2 ≤ length s → skip_of (s ++ u) ≡ skip_of s
unfolding skip_of
skip_append s u h = rw (le-leb 2 (length s) h, le-leb 2 (length (s ++ u)) (omega (arith, length-append s u)), get_or-append s u 0 0 (omega arith))

pub skip_fits : (s : List ℕ) → skip_of s ≤ length s
unfolding skip_of
skip_fits s = ⊎_elim short long (cases_lt (length s) 2)
  where
    short : length s < 2 → skip_of s ≤ length s
    short h = rw (lt-leb 2 (length s) h) (omega arith)

    go : 2 ≤ length s → (t : Bool) → cond t 2 0 ≤ length s
    go h true = h
    go h false = omega arith

    long : 2 ≤ length s → skip_of s ≤ length s
    long h = go h (leb 2 (length s) && eqb (get_or s 0 0) 255)

-- the same walk from the same skip
pub walk_row_at : (cs : List ColumnDescriptor) (s : List ℕ) (k : ℕ) → skip_of s ≡ k → walk_row cs s ≡ walk k cs k (drop k s)
unfolding walk_body
walk_row_at cs s k e = rw e

pub row_used : (cs : List ColumnDescriptor) (s : List ℕ) → is_done (walk_row cs s) ≡ true → (skip_of s ≤ used_of (walk_row cs s)) × (used_of (walk_row cs s) ≤ length s)
unfolding walk_body
row_used cs s d =
    let b = walk_used (skip_of s) cs (skip_of s) (drop (skip_of s) s) d in
    omega (arith, length-drop (skip_of s) s, skip_fits s)

stays_at : (cs : List ColumnDescriptor) → all_carry_own_end cs ≡ true → (s u : List ℕ) → skip_of (s ++ u) ≡ skip_of s → is_done (walk_row cs s) ≡ true
    → walk_row cs (s ++ u) ≡ walk_row cs s
unfolding walk_body
stays_at cs own s u k d =
    walk_row_at cs (s ++ u) (skip_of s) k
    ∙ (rw (drop-append-le (skip_of s) s u (skip_fits s), walk_stays (skip_of s) cs own (skip_of s) (drop (skip_of s) s) u d))

pub row_stays : (cs : List ColumnDescriptor) → all_carry_own_end cs ≡ true → (s u : List ℕ) → 2 ≤ length s → is_done (walk_row cs s) ≡ true
    → walk_row cs (s ++ u) ≡ walk_row cs s
row_stays cs own s u two d = stays_at cs own s u (skip_append s u two) d

pub row_cuts : (cs : List ColumnDescriptor) (s : List ℕ) → is_done (walk_row cs s) ≡ true
    → walk_row cs (take (used_of (walk_row cs s)) s) ≡ walk_row cs s
row_cuts cs s d =
    let n = used_of (walk_row cs s) in
    let b = row_used cs s d in
    let k = skip_cut s n b.0 b.1 in
    let e = walk_row_at cs s (skip_of s) refl in
    walk_row_at cs (take n s) (skip_of s) k
    ∙ (rw (drop_take (skip_of s) n s))
    ∙ walk_cuts (skip_of s) cs (skip_of s) (drop (skip_of s) s) (n - skip_of s) (sym (ap is_done e) ∙ d) (omega (arith, ap used_of e)) (omega (arith, length-drop (skip_of s) s))
    ∙ sym e

pub row_begins : (cs : List ColumnDescriptor) → all_carry_own_end cs ≡ true → (s t : List ℕ) → 2 ≤ length s → is_done (walk_row cs s) ≡ true
    → 1 ≤ used_of (walk_row cs s) → take (used_of (walk_row cs s)) t ≡ take (used_of (walk_row cs s)) s → walk_row cs t ≡ walk_row cs s
row_begins cs own s t two d one e =
    let n = used_of (walk_row cs s) in
    let b = row_used cs s d in
    let p = take n s in
    let w = row_cuts cs s d in
    let split : p ++ drop n t ≡ t = ap (λ (l : List ℕ). l ++ drop n t) (sym e) ∙ take-append-drop n t in
    let kt : skip_of t ≡ skip_of s = skip_begins s t n two one b.0 b.1 e in
    let kp : skip_of p ≡ skip_of s = skip_cut s n b.0 b.1 in
    ap (walk_row cs) (sym split)
    ∙ stays_at cs own p (drop n t) (ap skip_of split ∙ kt ∙ sym kp) (ap is_done w ∙ d)
    ∙ w

pub row_shorter : (cs : List ColumnDescriptor) → all_carry_own_end cs ≡ true → (s : List ℕ) → is_done (walk_row cs s) ≡ true
    → (m : ℕ) → 2 ≤ m → m < used_of (walk_row cs s) → is_done (walk_row cs (take m s)) ≡ false
row_shorter cs own s d m two less = false_from_ne_true (is_done (walk_row cs (take m s))) impossible
  where
    impossible : is_done (walk_row cs (take m s)) ≡ true → ⊥
    impossible f =
        let b = row_used cs s d in
        let l = length-take-le m s (omega arith) in
        let w = row_stays cs own (take m s) (drop m s) (omega arith) f in
        let v : walk_row cs s ≡ walk_row cs (take m s) = ap (walk_row cs) (sym (take-append-drop m s)) ∙ w in
        omega (arith, ap used_of v, (row_used cs (take m s) f).1)
