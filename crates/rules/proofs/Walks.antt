-- The laws of the walk, from those of `need`: what is done stays done with bytes added behind it, and with bytes taken away behind what it used.
-- Assumes nothing.
use Prim.Native.Nat.{ℕ, zero, suc, ◌+◌, ◌-◌, ◌≤◌}
use mathlib.Core.Path.{◌≡◌, refl, sym, ap, ◌∙◌}
use mathlib.Core.Bool.{Bool, true, false, cond, true≢false}
use mathlib.Core.List.{List, [], ◌∷◌, ◌++◌}
use native.Mathlib.Omega.{arith}
use native.Mathlib.Nat.{le_of_suc-le-suc, sub-zero, zero-sub, suc-sub-suc}
use lib.ListN.{length, take, drop, length-append, length-drop}
use lib.Seq.{take-append-le, drop-append-le, take-take, take-nil, length-take-le}
use lib.Dec.{leb, eqb}
use borrow.Author.Tests.{le-leb, leb-true}
use Rattle.std.proofs.lemmas.Bool.{and_parts}
use Rattle.types.specs.declared.ColumnDescriptor.{ColumnDescriptor}
use Rattle.rules.specs.declared.Extent.{Extent}
use Rattle.rules.specs.Extent.{need, extent_of}
use Rattle.rules.specs.OwnEnd.{carries_own_end, all_carry_own_end}
use Rattle.rules.specs.Walk.{nullable_need, cell_need, column_need, Cell, cell_of, Walk, done, short, cons_cell, cell_short, walk}
use Rattle.rules.proofs.Extents.{Stays, Cuts, stays, cuts, column_ends}

abbrev pub is_done : Walk → Bool
is_done (done ps n) = true
is_done (short e a) = false

abbrev pub used_of : Walk → ℕ
used_of (done ps n) = n
used_of (short e a) = 0

abbrev pub pieces_of : Walk → List Cell
pieces_of (done ps n) = ps
pieces_of (short e a) = []

-- and what these say
pub done_walk : (w : Walk) (n : ℕ) → is_done w ≡ true → used_of w ≡ n → (ps : List Cell) × (w ≡ done ps n)
done_walk (done ps m) n d e = (ps, ap (done ps) e)
done_walk (short x y) n d e = absurd (true≢false (sym d))

pub short_walk : (w : Walk) → is_done w ≡ false → (x : ℕ) × (y : ℕ) × (w ≡ short x y)
short_walk (done ps m) d = absurd (true≢false d)
short_walk (short x y) d = (x, y, refl)

-- a column with its indicator
nullable_stays : (e : Extent) → Stays (need e) → Stays (nullable_need e)
unfolding nullable_need
nullable_stays e f [] u h = absurd (omega arith)
nullable_stays e f (b ∷ s) u h = go (eqb b 255) h
  where
    go : (t : Bool) → cond t 1 (1 + need e s) ≤ suc (length s) → cond t 1 (1 + need e (s ++ u)) ≡ cond t 1 (1 + need e s)
    go true k = refl
    go false k = ap (λ (x : ℕ). 1 + x) (f s u (omega arith))

nullable_cuts : (e : Extent) → Cuts (need e) → Cuts (nullable_need e)
unfolding nullable_need
nullable_cuts e f [] m h l = absurd (omega arith)
nullable_cuts e f (b ∷ s) zero h l = absurd (go (eqb b 255) h)
  where
    go : (t : Bool) → cond t 1 (1 + need e s) ≤ 0 → ⊥
    go true k = omega arith
    go false k = omega arith
nullable_cuts e f (b ∷ s) (suc m) h l = go (eqb b 255) h
  where
    go : (t : Bool) → cond t 1 (1 + need e s) ≤ suc m → cond t 1 (1 + need e (take m s)) ≡ cond t 1 (1 + need e s)
    go true k = refl
    go false k = ap (λ (x : ℕ). 1 + x) (f s m (omega arith) (le_of_suc-le-suc l))

-- what holds of a value with its indicator and of one without holds of a column
pub by_indicator : (P : (List ℕ → ℕ) → Type 0) (c : ColumnDescriptor) → P (nullable_need (extent_of c)) → P (need (extent_of c)) → P (column_need c)
unfolding column_need
by_indicator P c nulls plain = go c.nullable
  where
    go : (t : Bool) → P (λ s. cell_need t (extent_of c) s)
    go true = nulls
    go false = plain

pub cell_stays : (c : ColumnDescriptor) → carries_own_end c ≡ true → Stays (column_need c)
cell_stays c own = let h = stays (extent_of c) (column_ends c own) in by_indicator Stays c (nullable_stays (extent_of c) h) h

cell_cuts : (c : ColumnDescriptor) → Cuts (column_need c)
cell_cuts c = let h = cuts (extent_of c) in by_indicator Cuts c (nullable_cuts (extent_of c) h) h

-- one step of the walk
pub walk_step : (start : ℕ) (c : ColumnDescriptor) (cs : List ColumnDescriptor) (at : ℕ) (s : List ℕ) (k : ℕ) → column_need c s ≡ k → k ≤ length s
    → walk start (c ∷ cs) at s ≡ cons_cell (cell_of c.nullable c at (take k s)) (walk start cs (at + k) (drop k s))
unfolding walk
walk_step start c cs at s k e h = rw (e, le-leb k (length s) h)

short_not_done : (t : Bool) (e : Extent) (offset : ℕ) (s : List ℕ) → is_done (cell_short t e offset s) ≡ false
unfolding cell_short
short_not_done true e offset [] = refl
short_not_done true e offset (b ∷ s) = refl
short_not_done false e offset s = refl

-- a walk that is done had the first column's bytes
pub walk_first : (start : ℕ) (c : ColumnDescriptor) (cs : List ColumnDescriptor) (at : ℕ) (s : List ℕ) → is_done (walk start (c ∷ cs) at s) ≡ true → column_need c s ≤ length s
unfolding walk
walk_first start c cs at s d = go (leb (column_need c s) (length s)) refl
  where
    go : (t : Bool) → leb (column_need c s) (length s) ≡ t → column_need c s ≤ length s
    go true e = leb-true (column_need c s) (length s) e
    go false e = absurd (true≢false (sym (rw e at d) ∙ short_not_done c.nullable (extent_of c) (at - start) s))

pub cons_done : (p : Cell) (w : Walk) → is_done (cons_cell p w) ≡ is_done w
unfolding cons_cell
cons_done p (done ps n) = refl
cons_done p (short e a) = refl

pub cons_used : (p : Cell) (w : Walk) → used_of (cons_cell p w) ≡ used_of w
unfolding cons_cell
cons_used p (done ps n) = refl
cons_used p (short e a) = refl

pub walk_rest : (start : ℕ) (c : ColumnDescriptor) (cs : List ColumnDescriptor) (at : ℕ) (s : List ℕ) → is_done (walk start (c ∷ cs) at s) ≡ true
    → is_done (walk start cs (at + column_need c s) (drop (column_need c s) s)) ≡ true
walk_rest start c cs at s d =
    sym (cons_done (cell_of c.nullable c at (take (column_need c s) s)) (walk start cs (at + column_need c s) (drop (column_need c s) s)))
    ∙ sym (ap is_done (walk_step start c cs at s (column_need c s) refl (walk_first start c cs at s d)))
    ∙ d

pub walk_rest_used : (start : ℕ) (c : ColumnDescriptor) (cs : List ColumnDescriptor) (at : ℕ) (s : List ℕ) → is_done (walk start (c ∷ cs) at s) ≡ true
    → used_of (walk start (c ∷ cs) at s) ≡ used_of (walk start cs (at + column_need c s) (drop (column_need c s) s))
walk_rest_used start c cs at s d =
    ap used_of (walk_step start c cs at s (column_need c s) refl (walk_first start c cs at s d))
    ∙ cons_used (cell_of c.nullable c at (take (column_need c s) s)) (walk start cs (at + column_need c s) (drop (column_need c s) s))

pub walk_used : (start : ℕ) (cs : List ColumnDescriptor) (at : ℕ) (s : List ℕ) → is_done (walk start cs at s) ≡ true
    → (at ≤ used_of (walk start cs at s)) × (used_of (walk start cs at s) ≤ at + length s)
unfolding walk
walk_used start [] at s d = omega arith
walk_used start (c ∷ cs) at s d =
    let h = walk_first start c cs at s d in
    let r = walk_used start cs (at + column_need c s) (drop (column_need c s) s) (walk_rest start c cs at s d) in
    omega (arith, walk_rest_used start c cs at s d, length-drop (column_need c s) s)

-- bytes are added
pub walk_stays : (start : ℕ) (cs : List ColumnDescriptor) → all_carry_own_end cs ≡ true → (at : ℕ) (s u : List ℕ) → is_done (walk start cs at s) ≡ true
    → walk start cs at (s ++ u) ≡ walk start cs at s
unfolding walk all_carry_own_end
walk_stays start [] own at s u d = refl
walk_stays start (c ∷ cs) own at s u d =
    let k = column_need c s in
    let h = walk_first start c cs at s d in
    let e = cell_stays c (and_parts (carries_own_end c) (all_carry_own_end cs) own).0 s u h in
    let ih = walk_stays start cs (and_parts (carries_own_end c) (all_carry_own_end cs) own).1 (at + k) (drop k s) u (walk_rest start c cs at s d) in
    walk_step start c cs at (s ++ u) k e (omega (arith, length-append s u))
    ∙ (rw (take-append-le k s u h, drop-append-le k s u h, ih))
    ∙ sym (walk_step start c cs at s k refl h)

-- bytes are taken away
pub drop_take : (k m : ℕ) (s : List ℕ) → drop k (take m s) ≡ take (m - k) (drop k s)
drop_take zero m s = ap (λ (i : ℕ). take i s) (sym (sub-zero m))
drop_take (suc k) zero s = ap (λ (i : ℕ). take i (drop (suc k) s)) (sym (zero-sub (suc k)))
drop_take (suc k) (suc m) [] = sym (take-nil (suc m - suc k))
drop_take (suc k) (suc m) (b ∷ s) = drop_take k m s ∙ ap (λ (i : ℕ). take i (drop k s)) (sym (suc-sub-suc m k))

pub walk_cuts : (start : ℕ) (cs : List ColumnDescriptor) (at : ℕ) (s : List ℕ) (m : ℕ) → is_done (walk start cs at s) ≡ true
    → used_of (walk start cs at s) ≤ at + m → m ≤ length s → walk start cs at (take m s) ≡ walk start cs at s
unfolding walk
walk_cuts start [] at s m d b l = refl
walk_cuts start (c ∷ cs) at s m d b l =
    let k = column_need c s in
    let h = walk_first start c cs at s d in
    let r = walk_rest start c cs at s d in
    let n = walk_rest_used start c cs at s d in
    let low = walk_used start cs (at + k) (drop k s) r in
    let km : k ≤ m = omega arith in
    let e = cell_cuts c s m km l in
    let ih = walk_cuts start cs (at + k) (drop k s) (m - k) r (omega arith) (omega (arith, length-drop k s)) in
    walk_step start c cs at (take m s) k e (omega (arith, length-take-le m s l))
    ∙ (rw (take-take k m s km, drop_take k m s, ih))
    ∙ sym (walk_step start c cs at s k refl h)
