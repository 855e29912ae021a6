-- Which column a row is too short in (specs/ShortColumn.antt): for every choice of the conversions, and so of the row call. Assumes nothing.
use Prim.Native.Nat.{ℕ, zero, suc, ◌+◌, ◌≤◌, ◌<◌}
use mathlib.Core.Path.{◌≡◌, refl, sym, ap, ◌∙◌, subst}
use mathlib.Core.Bool.{Bool, true, false, cond, ◌||◌, true≢false}
use mathlib.Core.List.{List, [], ◌∷◌}
use native.Mathlib.Omega.{arith}
use lib.ListN.{length, take, drop, length-take}
use lib.Seq.{take-take}
use lib.Dec.{leb, ltb}
use borrow.Author.Tests.{le-ltb, ltb-false}
use Rattle.refusal.specs.Refusal.{Told, accepted, refused, told_number}
use Rattle.types.specs.declared.ColumnDescriptor.{ColumnDescriptor}
use Rattle.types.specs.declared.Columns.{Columns}
use Rattle.types.specs.Names.{is_dec_float}
use Rattle.types.specs.Places.{max_columns}
use Rattle.rules.specs.Meaning.{Conversions}
use Rattle.rules.specs.Walk.{column_need, Cell, cell_of, Walk, done, short, cons_cell, walk, walk_body, walk_row, skip_of}
use Rattle.rules.specs.Row.{Decision, refuse, accept, covered, any_dec_float, row_texts, walk_decision, row_decision, answer_of, refused_row, answer_with}
use Rattle.rules.specs.Conversions.{conversions_of, row_answer}
use Rattle.rules.specs.ShortColumn.{first_columns, Lacking, ShortColumn}
use Rattle.rules.proofs.Walks.{is_done, cons_done}
use Rattle.rules.proofs.Releases.{at_release}
use Rattle.rules.proofs.Demand3.{Tested, tested, call_walked}

-- ---- the walk

-- a walk that is too short by x and y stops at column k, whatever columns follow it
pub record Stops (start : ℕ) (cs : List ColumnDescriptor) (at : ℕ) (s : List ℕ) (x y k : ℕ) : Type 0 where
  pub within : k < length cs
  pub before : (j : ℕ) → j ≤ k → is_done (walk start (take j cs) at s) ≡ true
  pub from : (j : ℕ) → k < j → walk start (take j cs) at s ≡ short x y

cons_short : (p : Cell) (w : Walk) (x y : ℕ) → cons_cell p w ≡ short x y → w ≡ short x y
unfolding cons_cell
cons_short p (done ps n) x y e = absurd (true≢false (ap is_done e))
cons_short p (short a b) x y e = e

-- at the first column, whose bytes are not there
stops_here : (start : ℕ) (c : ColumnDescriptor) (cs : List ColumnDescriptor) (at : ℕ) (s : List ℕ) (x y : ℕ) → leb (column_need c s) (length s) ≡ false
    → walk start (c ∷ cs) at s ≡ short x y → Stops start (c ∷ cs) at s x y 0
unfolding walk
stops_here start c cs at s x y l h = record { within = omega arith; before = before'; from = from' }
  where
    before' : (j : ℕ) → j ≤ 0 → is_done (walk start (take j (c ∷ cs)) at s) ≡ true
    before' zero b = refl
    before' (suc j) b = absurd (omega arith)

    from' : (j : ℕ) → 0 < j → walk start (take j (c ∷ cs)) at s ≡ short x y
    from' zero b = absurd (omega arith)
    from' (suc j) b = rw l (rw l at h)

-- at a later one, where the walk over the rest stops
stops_later : (start : ℕ) (c : ColumnDescriptor) (cs : List ColumnDescriptor) (at : ℕ) (s : List ℕ) (x y k : ℕ) → leb (column_need c s) (length s) ≡ true
    → Stops start cs (at + column_need c s) (drop (column_need c s) s) x y k → Stops start (c ∷ cs) at s x y (suc k)
unfolding walk cons_cell
stops_later start c cs at s x y k l f = record { within = omega (arith, f.within); before = before'; from = from' }
  where
    before' : (j : ℕ) → j ≤ suc k → is_done (walk start (take j (c ∷ cs)) at s) ≡ true
    before' zero b = refl
    before' (suc j) b =
        rw l
        (cons_done (cell_of c.nullable c at (take (column_need c s) s)) (walk start (take j cs) (at + column_need c s) (drop (column_need c s) s)) ∙ f.before j (omega arith))

    from' : (j : ℕ) → suc k < j → walk start (take j (c ∷ cs)) at s ≡ short x y
    from' zero b = absurd (omega arith)
    from' (suc j) b = rw l (ap (cons_cell (cell_of c.nullable c at (take (column_need c s) s))) (f.from j (omega arith)))

walk_stops : (start : ℕ) (cs : List ColumnDescriptor) (at : ℕ) (s : List ℕ) (x y : ℕ) → walk start cs at s ≡ short x y → (k : ℕ) × Stops start cs at s x y k
unfolding walk
walk_stops start [] at s x y e = absurd (true≢false (ap is_done e))
walk_stops start (c ∷ cs) at s x y e = go (leb (column_need c s) (length s)) refl (walk_stops start cs (at + column_need c s) (drop (column_need c s) s) x y)
  where
    go : (t : Bool) → leb (column_need c s) (length s) ≡ t
        → (walk start cs (at + column_need c s) (drop (column_need c s) s) ≡ short x y → (k : ℕ) × Stops start cs (at + column_need c s) (drop (column_need c s) s) x y k)
        → (k : ℕ) × Stops start (c ∷ cs) at s x y k
    go true l later =
        let r = later (cons_short (cell_of c.nullable c at (take (column_need c s) s)) (walk start cs (at + column_need c s) (drop (column_need c s) s)) x y (rw l at e)) in
        (suc r.0, stops_later start c cs at s x y r.0 l r.1)
    go false l later = (zero, stops_here start c cs at s x y l e)

-- ---- the row call

none_before : (j : ℕ) (cs : List ColumnDescriptor) → any_dec_float cs ≡ false → any_dec_float (take j cs) ≡ false
unfolding any_dec_float
none_before zero cs h = refl
none_before (suc j) [] h = refl
none_before (suc j) (c ∷ cs) h = go (is_dec_float c) h (none_before j cs)
  where
    go : (t : Bool) → (t || any_dec_float cs) ≡ false → (any_dec_float cs ≡ false → any_dec_float (take j cs) ≡ false) → (t || any_dec_float (take j cs)) ≡ false
    go true k f = absurd (true≢false k)
    go false k f = f k

abbrev pub values_of : Told → List ℕ
values_of accepted = []
values_of (refused n vs) = vs

module _ (L : Conversions) where
  -- a walk that is done is not too short
  not_short : (w : Walk) (d vs : List ℕ) → is_done w ≡ true → (answer_of L (walk_decision L w d)).outcome ≡ refused 8 vs → ⊥
  unfolding walk_decision answer_of
  not_short (done ps n) d vs o e = go (ltb (length d) (length (row_texts L ps))) e
    where
      go : (t : Bool) → (answer_of L (cond t (refuse 9 (length (row_texts L ps) ∷ [])) (accept ps n))).outcome ≡ refused 8 vs → ⊥
      go true h = let z = ap told_number h in omega (arith, z)
      go false h = let z = ap told_number h in omega (arith, z)
  not_short (short x y) d vs o e = true≢false (sym o)

  -- and one that is not done is too short by its own numbers
  pub is_short_lem : (w : Walk) (d vs : List ℕ) → (answer_of L (walk_decision L w d)).outcome ≡ refused 8 vs → (x : ℕ) × (y : ℕ) × (w ≡ short x y) × (x ∷ y ∷ [] ≡ vs)
  unfolding walk_decision answer_of
  is_short_lem (done ps n) d vs e = absurd (not_short (done ps n) d vs refl e)
  is_short_lem (short x y) d vs e = (x, y, refl, ap values_of e)

  module _ (columns : Columns) (s d : List ℕ) (t : Tested L columns s d) where
    -- a call with the first j columns passes the same tests, and comes to its own walk
    called : (j : ℕ) (e : List ℕ) → j ≤ columns.count → row_decision L (first_columns j columns) s e ≡ walk_decision L (walk_row (take j (covered columns)) s) e
    called j e h =
        let same : covered (first_columns j columns) ≡ take j (covered columns) = sym (take-take j columns.count columns.columns h) in
        let few = ltb-false max_columns columns.count t.few in
        let plain : any_dec_float (covered (first_columns j columns)) ≡ false = rw same (none_before j (covered columns) t.plain) in
        call_walked L (first_columns j columns) (le-ltb max_columns j (omega arith)) plain s e t.fits ∙ ap (λ (l : List ColumnDescriptor). walk_decision L (walk_row l s) e) same

    module _ (x y k : ℕ) (f : Stops (skip_of s) (covered columns) (skip_of s) (drop (skip_of s) s) x y k) where
      among : k < columns.count
      among = omega (arith, f.within, length-take columns.count columns.columns)

      without' : (j : ℕ) (e vs : List ℕ) → j ≤ k → (answer_with L (first_columns j columns) s e).outcome ≡ refused 8 vs → ⊥
      unfolding walk_body
      without' j e vs h o =
          let few = among in
          not_short (walk_row (take j (covered columns)) s) e vs (f.before j h) (sym (ap (λ (z : Decision). (answer_of L z).outcome) (called j e (omega arith))) ∙ o)

      with' : (j : ℕ) (e : List ℕ) → k < j → j ≤ columns.count → answer_with L (first_columns j columns) s e ≡ refused_row 8 (x ∷ y ∷ [])
      unfolding walk_body walk_decision answer_of
      with' j e h l = ap (answer_of L) (called j e l ∙ ap (λ (w : Walk). walk_decision L w e) (f.from j h))

      lacking : Lacking (answer_with L) columns s (x ∷ y ∷ []) k
      lacking = record { covers = among; without = without'; with_it = with' }

  short_column_at : ShortColumn (answer_with L)
  unfolding walk_body
  short_column_at columns s d vs o =
      let t = tested L columns (refused 8 vs) s d (λ n h z. omega (arith, h, ap told_number z)) o in
      let w = is_short_lem (walk_row (covered columns) s) d vs (sym (ap (λ (z : Decision). (answer_of L z).outcome) t.walked) ∙ o) in
      let r = walk_stops (skip_of s) (covered columns) (skip_of s) (drop (skip_of s) s) w.0 w.1 w.2 in
      (r.0, subst (λ (us : List ℕ). Lacking (answer_with L) columns s us r.0) w.3 (lacking columns s d t w.0 w.1 r.0 r.1))

-- for every choice of the conversions
pub short_column_with : (L : Conversions) → ShortColumn (answer_with L)
short_column_with L = short_column_at L

-- of the row call
pub short_column : (release : ℕ) → ShortColumn (row_answer release)
short_column release =
    at_release release (λ answer after. ShortColumn answer) (short_column_with (conversions_of release)) (λ columns s d vs o. absurd (omega (arith, ap told_number o)))
