-- One triplet of a reading, at a place of the whole. Assumes nothing.
use mathlib.Core.Path.{◌≡◌, refl, sym, ap, ◌∙◌}
use mathlib.Core.Bool.{Bool, true, false, cond, ◌&&◌}
use mathlib.Core.List.{List, [], ◌∷◌}
use Prim.Native.Nat.{ℕ, zero, suc, ◌+◌, ◌-◌, ◌≤◌}
use native.Mathlib.Omega.{arith}
use native.Mathlib.Nat.{not-suc-le-zero}
use lib.Dec.{leb}
use lib.ListN.{length, get_or, take, drop, length-drop}
use lib.Seq.{slice, drop-drop, length-slice}
use borrow.Author.Tests.{leb-true}
use Rattle.std.specs.Prelude.{Option, Some, None}
use Rattle.triplets.specs.declared.Triplet.{Triplet as Placed}
use Rattle.triplets.specs.Triplets.{Reading, triplet, begins, first_triplet, stopped, cons_triplet, reading_of, reading}
use Rattle.triplets.specs.Steps.{placed, next_of}
use Rattle.triplets.proofs.Slices.{slice_slice}

and_left : (a b : Bool) → (a && b) ≡ true → a ≡ true
and_left true b e = refl
and_left false b e = e

and_right : (a b : Bool) → (a && b) ≡ true → b ≡ true
and_right true b e = e
and_right false b e = let z : ◌≡◌ {A = ℕ} 0 1 = cc in absurd (omega arith)

and_false : (a : Bool) → (a && false) ≡ false
and_false true = refl
and_false false = refl

-- what it takes that a triplet begins
pub record Begun (least : ℕ) (s : List ℕ) : Type 0 where
  pub enough : least ≤ length s
  pub two : 2 ≤ get_or s 0 0
  pub fits : get_or s 0 0 ≤ length s

pub begun : (least : ℕ) (s : List ℕ) → begins least s ≡ true → Begun least s
begun least s e =
    let r = and_right (leb least (length s)) (leb 2 (get_or s 0 0) && leb (get_or s 0 0) (length s)) e in
    record {
      enough = leb-true least (length s) (and_left _ _ e);
      two = leb-true 2 (get_or s 0 0) (and_left _ _ r);
      fits = leb-true (get_or s 0 0) (length s) (and_right (leb 2 (get_or s 0 0)) _ r);
    }

none_begins : (least : ℕ) (s : List ℕ) → length s ≤ 0 → begins least s ≡ false
none_begins least [] h = and_false (leb least 0)
none_begins least (x ∷ s) h = absurd (not-suc-le-zero h)

-- any bound that is at least the length gives the same reading
enough_bound : (least j k : ℕ) (s : List ℕ) → length s ≤ j → length s ≤ k → reading_of least j s ≡ reading_of least k s
unfolding reading_of
enough_bound least zero zero s p q = refl
enough_bound least zero (suc k) s p q = rw (none_begins least s p)
enough_bound least (suc j) zero s p q = rw (none_begins least s q)
enough_bound least (suc j) (suc k) s p q = go (enough_bound least j k (drop (get_or s 0 0) s)) (begins least s) refl
  where
    go : (length (drop (get_or s 0 0) s) ≤ j
        → length (drop (get_or s 0 0) s) ≤ k
        → reading_of least j (drop (get_or s 0 0) s) ≡ reading_of least k (drop (get_or s 0 0) s))
        → (b : Bool)
        → begins least s ≡ b
        → cond b (cons_triplet (first_triplet s) (reading_of least j (drop (get_or s 0 0) s))) (stopped s)
        ≡ cond b (cons_triplet (first_triplet s) (reading_of least k (drop (get_or s 0 0) s))) (stopped s)
    go same true e =
        let f = begun least s e in
        let d = length-drop (get_or s 0 0) s in
        ap (cons_triplet (first_triplet s)) (same (omega arith) (omega arith))
    go same false e = refl

pub reading_more : (least : ℕ) (s : List ℕ) → begins least s ≡ true → reading least s ≡ cons_triplet (first_triplet s) (reading least (drop (get_or s 0 0) s))
unfolding reading reading_of
reading_more least [] e = absurd (omega (arith, (begun least [] e).two))
reading_more least (x ∷ s) e =
    let f = begun least (x ∷ s) e in
    let d = length-drop x (x ∷ s) in
    rw e (ap (cons_triplet (first_triplet (x ∷ s))) (enough_bound least (length s) (length (drop x (x ∷ s))) (drop x (x ∷ s)) (omega arith) (omega arith)))

pub reading_none : (least : ℕ) (s : List ℕ) → begins least s ≡ false → reading least s ≡ stopped s
unfolding reading reading_of
reading_none least [] e = refl
reading_none least (x ∷ s) e = rw e

-- what is left unread is no longer than all
unread_of : (least n : ℕ) (s : List ℕ) → length (reading_of least n s).unread ≤ length s
unfolding reading_of
unread_of least zero s = omega arith
unread_of least (suc n) s = go (unread_of least n (drop (get_or s 0 0) s)) (begins least s)
  where
    go : length (reading_of least n (drop (get_or s 0 0) s)).unread ≤ length (drop (get_or s 0 0) s)
        → (b : Bool)
        → length (cond b (cons_triplet (first_triplet s) (reading_of least n (drop (get_or s 0 0) s))) (stopped s)).unread ≤ length s
    go h true = let d = length-drop (get_or s 0 0) s in omega arith
    go h false = omega arith

pub unread_within : (least : ℕ) (s : List ℕ) → length (reading least s).unread ≤ length s
unfolding reading
unread_within least s = unread_of least (length s) s

-- ---- the triplet at the place i of a part of s that ends at e: it has the kind k and ends at m
pub record Found (least : ℕ) (s : List ℕ) (i e k m : ℕ) : Type 0 where
  pub low : i + 2 ≤ m
  pub high : m ≤ e
  pub whole : e ≤ length s
  pub more : (reading least (slice i e s)).triplets ≡ triplet k (slice (i + 2) m s) ∷ (reading least (slice m e s)).triplets
  pub rest : (reading least (slice i e s)).unread ≡ (reading least (slice m e s)).unread

pub ends : {least : ℕ} {s : List ℕ} {i e k m : ℕ} → Found least s i e k m → m ≤ length s
ends f =
    let h = f.high in
    let w = f.whole in
    omega arith

none : (least : ℕ) (s : List ℕ) (i e : ℕ) → next_of least (slice i e s) i ≡ None → reading least (slice i e s) ≡ stopped (slice i e s)
unfolding next_of
none least s i e h = go (begins least (slice i e s)) refl h
  where
    go : (b : Bool)
        → begins least (slice i e s) ≡ b
        → cond b (Some (placed (get_or (slice i e s) 1 0) (i + get_or (slice i e s) 0 0))) None ≡ None
        → reading least (slice i e s) ≡ stopped (slice i e s)
    go true t f = let z : ◌≡◌ {A = ℕ} 0 1 = cc in absurd (omega arith)
    go false t f = reading_none least (slice i e s) t

some : (least : ℕ) (s : List ℕ) (i e k m : ℕ) → i ≤ e → e ≤ length s → next_of least (slice i e s) i ≡ Some (placed k m) → Found least s i e k m
unfolding next_of
some least s i e k m p q h = go (begins least (slice i e s)) refl h
  where
    go : (b : Bool)
        → begins least (slice i e s) ≡ b
        → cond b (Some (placed (get_or (slice i e s) 1 0) (i + get_or (slice i e s) 0 0))) None ≡ Some (placed k m)
        → Found least s i e k m
    go true t f =
        let same : placed (get_or (slice i e s) 1 0) (i + get_or (slice i e s) 0 0) ≡ placed k m = cc in
        let pk : get_or (slice i e s) 1 0 ≡ k = ap (λ (t : Placed). t.kind) same in
        let pm : i + get_or (slice i e s) 0 0 ≡ m = ap (λ (t : Placed). t.end) same in
        let b = begun least (slice i e s) t in
        let l = length-slice i e s q in
        let size : get_or (slice i e s) 0 0 - 2 ≡ m - (i + 2) = omega arith in
        let low : i + 2 ≤ m = omega arith in
        let high : m ≤ e = omega arith in
        record {
          low = low;
          high = high;
          whole = q;
          more = ap (λ (r : Reading). r.triplets) (reading_more least (slice i e s) t)
              ∙ rw (size, slice_slice i 2 m e s low high q, drop-drop (get_or (slice i e s) 0 0) i (take e s), pm, pk);
          rest = ap (λ (r : Reading). r.unread) (reading_more least (slice i e s) t) ∙ rw (drop-drop (get_or (slice i e s) 0 0) i (take e s), pm);
        }
    go false t f = let z : ◌≡◌ {A = ℕ} 0 1 = cc in absurd (omega arith)

-- the same of an answer n
module _ {n : Option Placed} (least : ℕ) (s : List ℕ) (i e : ℕ) (asked : n ≡ next_of least (slice i e s) i) where
  pub next_none : n ≡ None → (reading least (slice i e s)).triplets ≡ []
  next_none h = ap (λ (r : Reading). r.triplets) (none least s i e (sym asked ∙ h))

  pub next_unread : n ≡ None → (reading least (slice i e s)).unread ≡ slice i e s
  next_unread h = ap (λ (r : Reading). r.unread) (none least s i e (sym asked ∙ h))

  pub next_some : {t : Placed} → i ≤ e → e ≤ length s → n ≡ Some t → Found least s i e t.kind t.end
  next_some {t = t} p q h = some least s i e t.kind t.end p q (sym asked ∙ h)
