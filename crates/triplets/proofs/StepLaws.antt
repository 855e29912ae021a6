-- What each sort of step says of the columns to come. Assumes nothing.
use Rattle.std.specs.Prelude.{Option, None, Some}
use mathlib.Core.Path.{◌≡◌, refl, sym, ap, ◌∙◌}
use mathlib.Core.Bool.{Bool, true, false, cond, ◌&&◌}
use mathlib.Core.List.{List, [], ◌∷◌, ◌++◌}
use Prim.Native.Nat.{ℕ, zero, suc, ◌+◌, ◌-◌, ◌*◌, ◌≤◌, ◌<◌}
use native.Mathlib.Omega.{arith}
use native.Mathlib.Nat.{add-zero}
use native.Mathlib.Numerals.{add-one, add-two, add-three}
use lib.Dec.{eqb, ltb}
use lib.ListN.{length, get_or, take, drop}
use lib.Seq.{slice, slice_empty, slice-cons, length-slice, drop-drop}
use borrow.Author.Tests.{ne_eqb, lt-ltb, le-ltb, ltb-true, ltb-false}
use Rattle.types.specs.declared.ColumnDescriptor.{ColumnDescriptor}
use Rattle.column.specs.Column.{sda_column}
use Rattle.column.specs.Group.{entry_of, no_entry, lid_column}
use Rattle.triplets.specs.declared.Cursor.TheVariants as cursor
use Rattle.triplets.specs.Triplets.{Triplet, triplet, reading, breaks_off}
use Rattle.triplets.specs.Descriptors.{Environment, last_of, pending_after, declare, environment_after, sda_columns, outer_sda, lid_columns, inner_columns, group_columns, triplet_columns, columns_from}
use Rattle.triplets.specs.Steps.{group_at, outer_from, end_from, outer_at, to_come, CursorWithin, ahead, Goes}
use Rattle.triplets.proofs.Slices.{slice_all, get_d_slice}
use Rattle.triplets.proofs.ReadingLaws.{unread_within, Found}

-- ---- parts with data, and without
module _ (s : List ℕ) (a e : ℕ) (h : e ≤ length s) where
  some_data : a < e → eqb (length (slice a e s)) 0 ≡ false
  some_data k = let l = length-slice a e s h in ne_eqb (length (slice a e s)) 0 (λ q. omega arith)

  pub first_byte : a < e → get_or (slice a e s) 0 0 ≡ get_or s a 0
  first_byte k =
      let z = add-zero a in
      get_d_slice a e 0 s 0 (omega arith) ∙ ap (λ (n : ℕ). get_or s n 0) z

pub no_data : (s : List ℕ) (a e : ℕ) → a ≡ e → slice a e s ≡ []
no_data s a e q = rw q (slice_empty e s)

pub last_byte : (s : List ℕ) (a e : ℕ) → a < e → e ≤ length s → last_of (slice a e s) ≡ Some (get_or s (e - 1) 0)
unfolding last_of
last_byte s a e h k =
    let q : a + (e - a - 1) ≡ e - 1 = omega arith in
    rw (some_data s a e k h, length-slice a e s k, get_d_slice a e (e - a - 1) s 0 (omega arith), q)

-- ---- where outer triplets end
pub end_here : (s : List ℕ) (i : ℕ) → i ≤ length s → (reading 2 (slice i (length s) s)).unread ≡ slice i (length s) s → i ≡ end_from s i
unfolding end_from
end_here s i h e = let l = length-slice i (length s) s (omega arith) in rw e (omega arith)

pub end_after : {s : List ℕ} {i k m : ℕ} → Found 2 s i (length s) k m → end_from s m ≡ end_from s i
unfolding end_from
end_after f = rw f.rest

-- bytes are left unread exactly where the end is not the description's
pub breaks_before : (s : List ℕ) → ltb (end_from s 0) (length s) ≡ breaks_off s
unfolding end_from breaks_off
breaks_before s = rw (slice_all s) (go (length (reading 2 s).unread) (unread_within 2 s))
  where
    go : (u : ℕ) → u ≤ length s → ltb (length s - u) (length s) ≡ ltb 0 u
    go zero h = le-ltb (length s - 0) (length s) (omega arith)
    go (suc u) h = lt-ltb (length s - suc u) (length s) (omega arith) ∙ sym (lt-ltb 0 (suc u) (omega arith))

-- ---- outer triplets
pub outer_end : (s : List ℕ) (i : ℕ) (p : Option ℕ) → (reading 2 (slice i (length s) s)).triplets ≡ [] → (env : Environment) → to_come s env (cursor.Outer p i) ≡ []
unfolding to_come columns_from
outer_end s i p h env = rw h

same_environment : (p : Option ℕ) (env : Environment) (t : Triplet) → eqb t.kind 0x70 ≡ false → environment_after p env t ≡ env
unfolding environment_after
same_environment None env t e = refl
same_environment (Some mdd) env t e = rw e

same_empty : (p : Option ℕ) (env : Environment) (k : ℕ) → environment_after p env (triplet k []) ≡ env
unfolding environment_after
same_empty None env k = refl
same_empty (Some mdd) env k = go (eqb k 0x70)
  where
    go : (b : Bool) → cond b env env ≡ env
    go true = refl
    go false = refl

empty_sda : (p : Option ℕ) → outer_sda p [] ≡ []
unfolding outer_sda sda_columns
empty_sda None = refl
empty_sda (Some mdd) = refl

-- the columns to come where a group begins
group_begins : (s : List ℕ) (env : Environment) (a e : ℕ) → a ≤ e → e ≤ length s
    → group_columns env (slice a e s) ++ columns_from None env (outer_from s e) ≡ to_come s env (group_at s a e)
unfolding group_columns group_at to_come
group_begins s env a e h k = go (ltb a e) refl
  where
    data_begins : (b : Bool)
        → cond b (lid_columns env (drop 1 (slice a e s))) (inner_columns (reading 3 (slice a e s)).triplets) ++ columns_from None env (outer_from s e)
        ≡ to_come s env (cond b (cursor.Lids (a + 1) e) (cursor.Inner a e))
    data_begins true = rw (drop-drop 1 a (take e s))
    data_begins false = refl

    go : (b : Bool) → ltb a e ≡ b → group_columns env (slice a e s) ++ columns_from None env (outer_from s e) ≡ to_come s env (group_at s a e)
    go true t = rw (t, first_byte s a e k (ltb-true a e t)) (data_begins (eqb (get_or s a 0) 0xD0))
    go false t = rw (t, no_data s a e (omega (arith, ltb-false a e t)))

group_within : (s : List ℕ) (a e : ℕ) → a ≤ e → e ≤ length s → CursorWithin s (group_at s a e) × (ahead s (group_at s a e) ≤ 2 * (length s - a) + 1)
unfolding group_at
group_within s a e h k = go (ltb a e) refl (eqb (get_or s a 0) 0xD0)
  where
    go : (b : Bool) → ltb a e ≡ b → (d : Bool)
        → CursorWithin s (cond (b && d) (cursor.Lids (a + 1) e) (cursor.Inner a e)) × (ahead s (cond (b && d) (cursor.Lids (a + 1) e) (cursor.Inner a e)) ≤ 2 * (length s - a) + 1)
    go true t true = let l = ltb-true a e t in ((omega arith, k), omega arith)
    go true t false = ((h, k), omega arith)
    go false t d = ((h, k), omega arith)

group_ends : (s : List ℕ) (a e : ℕ) → end_from s (outer_at (group_at s a e)) ≡ end_from s e
unfolding group_at
group_ends s a e = go (ltb a e && eqb (get_or s a 0) 0xD0)
  where
    go : (b : Bool) → end_from s (outer_at (cond b (cursor.Lids (a + 1) e) (cursor.Inner a e))) ≡ end_from s e
    go true = refl
    go false = refl

module _ (s : List ℕ) (i : ℕ) (p : Option ℕ) (k m : ℕ) (f : Found 2 s i (length s) k m) where
  abbrev body : List ℕ
  body = slice (i + 2) m s

  outer_more : (env : Environment)
      → to_come s env (cursor.Outer p i)
      ≡ triplet_columns p env (triplet k body) ++ columns_from (pending_after (triplet k body)) (environment_after p env (triplet k body)) (outer_from s m)
  unfolding to_come columns_from
  outer_more env = rw f.more

  to_outer : (q : Option ℕ) (rest : Environment → List ColumnDescriptor)
      → ((env : Environment) → to_come s env (cursor.Outer p i) ≡ rest env)
      → Goes s (cursor.Outer p i) (cursor.Outer q m) rest
  to_outer q rest same =
      let l = f.low in
      let h = f.high in
      record { within = h; less = omega arith; same = same; ends = end_after f }

  pub outer_empty : k ≡ 0x70 → i + 2 ≡ m → Goes s (cursor.Outer p i) (cursor.Outer None m) (λ env. to_come s env (cursor.Outer None m))
  unfolding to_come triplet_columns pending_after
  outer_empty e q =
      to_outer None (λ env. to_come s env (cursor.Outer None m))
      (λ env. outer_more env ∙ rw (no_data s (i + 2) m q, e, empty_sda p, same_empty p env 0x70))

  pub outer_other : (k ≡ 0x70 → ⊥) → (k ≡ 0x76 → ⊥) → (k ≡ 0x78 → ⊥)
      → Goes s (cursor.Outer p i) (cursor.Outer None m) (λ env. to_come s env (cursor.Outer None m))
  unfolding to_come triplet_columns pending_after
  outer_other a b d =
      to_outer None (λ env. to_come s env (cursor.Outer None m))
      (λ env. outer_more env ∙ rw (same_environment p env (triplet k body) (ne_eqb _ _ a), ne_eqb _ _ a, ne_eqb _ _ b, ne_eqb _ _ d))

  pub outer_mdd : k ≡ 0x78 → Goes s (cursor.Outer p i) (cursor.Outer (last_of body) m) (λ env. to_come s env (cursor.Outer (last_of body) m))
  unfolding to_come triplet_columns pending_after
  outer_mdd e =
      to_outer (last_of body) (λ env. to_come s env (cursor.Outer (last_of body) m))
      (λ env. outer_more env ∙ rw (e, same_environment p env (triplet 0x78 body) refl))

  pub outer_group : k ≡ 0x76 → Goes s (cursor.Outer p i) (group_at s (i + 2) m) (λ env. to_come s env (group_at s (i + 2) m))
  unfolding triplet_columns pending_after
  outer_group e =
      let l = f.low in
      let h = f.high in
      let g = group_within s (i + 2) m l h in
      record {
        within = g.0;
        less = omega (arith, g.1);
        same = λ env. outer_more env ∙ rw (e, same_environment p env (triplet 0x76 body) refl) (group_begins s env (i + 2) m l h);
        ends = group_ends s (i + 2) m ∙ end_after f;
      }

-- an SDA with data: a column where nothing is pending, else an entry
module _ (s : List ℕ) (i k m : ℕ) (f : Found 2 s i (length s) k m) (e : k ≡ 0x70) (d : i + 2 ≡ m → ⊥) where
  h : i + 2 < m
  h = let l = f.low in omega arith

  pub outer_column : Goes s (cursor.Outer None i) (cursor.Outer None m)
      (λ env. sda_column (slice (i + 2) m s) ∷ to_come s env (cursor.Outer None m))
  unfolding to_come triplet_columns pending_after environment_after outer_sda sda_columns
  outer_column =
      to_outer s i None k m f None (λ env. sda_column (slice (i + 2) m s) ∷ to_come s env (cursor.Outer None m))
      (λ env. outer_more s i None k m f env ∙ rw (e, some_data s (i + 2) m f.high h))

  pub outer_declare : (mdd : ℕ)
      → Goes s (cursor.Outer (Some mdd) i) (cursor.Outer None m)
      (λ env. to_come s (declare env (get_or s (i + 2) 0) (entry_of mdd (slice (i + 2) m s))) (cursor.Outer None m))
  unfolding to_come triplet_columns pending_after environment_after outer_sda
  outer_declare mdd =
      to_outer s i (Some mdd) k m f None
      (λ env. to_come s (declare env (get_or s (i + 2) 0) (entry_of mdd (slice (i + 2) m s))) (cursor.Outer None m))
      (λ env. outer_more s i (Some mdd) k m f env ∙ rw (e, some_data s (i + 2) m f.high h, first_byte s (i + 2) m f.high h))

-- ---- inner triplets
module _ (s : List ℕ) (i e : ℕ) (p : i ≤ e) (q : e ≤ length s) where
  pub inner_none : (reading 3 (slice i e s)).triplets ≡ []
      → Goes s (cursor.Inner i e) (cursor.Outer None e) (λ env. to_come s env (cursor.Outer None e))
  unfolding to_come inner_columns
  inner_none h = record { within = q; less = omega arith; same = λ env. rw h; ends = refl }

module _ (s : List ℕ) (i e k m : ℕ) (f : Found 3 s i e k m) where
  to_inner : (rest : Environment → List ColumnDescriptor)
      → ((env : Environment) → to_come s env (cursor.Inner i e) ≡ rest env)
      → Goes s (cursor.Inner i e) (cursor.Inner m e) rest
  to_inner rest same =
      let l = f.low in
      let h = f.high in
      let w = f.whole in
      record { within = (h, w); less = omega arith; same = same; ends = refl }

  pub inner_column : k ≡ 0x70 → i + 2 < m → Goes s (cursor.Inner i e) (cursor.Inner m e) (λ env. sda_column (slice (i + 2) m s) ∷ to_come s env (cursor.Inner m e))
  unfolding to_come inner_columns sda_columns
  inner_column x h =
      let l = f.high in
      let w = f.whole in
      to_inner (λ env. sda_column (slice (i + 2) m s) ∷ to_come s env (cursor.Inner m e))
      (λ env. rw (f.more, x, some_data s (i + 2) m (omega arith) h))

  pub inner_empty : i + 2 ≡ m → Goes s (cursor.Inner i e) (cursor.Inner m e) (λ env. to_come s env (cursor.Inner m e))
  unfolding to_come inner_columns sda_columns
  inner_empty h =
      to_inner (λ env. to_come s env (cursor.Inner m e))
      (λ env. rw (f.more, no_data s (i + 2) m h) (go (eqb k 0x70) (inner_columns (reading 3 (slice m e s)).triplets) (columns_from None env (outer_from s e))))
    where
      go : (b : Bool) (xs ys : List ColumnDescriptor) → (cond b [] [] ++ xs) ++ ys ≡ xs ++ ys
      go true xs ys = refl
      go false xs ys = refl

  pub inner_other : (k ≡ 0x70 → ⊥) → Goes s (cursor.Inner i e) (cursor.Inner m e) (λ env. to_come s env (cursor.Inner m e))
  unfolding to_come inner_columns
  inner_other x = to_inner (λ env. to_come s env (cursor.Inner m e)) (λ env. rw (f.more, ne_eqb _ _ x))

-- ---- the threes of a D0 group
short_lids : (env : Environment) (d : List ℕ) → length d < 3 → lid_columns env d ≡ []
unfolding lid_columns
short_lids env [] h = refl
short_lids env (l ∷ []) h = refl
short_lids env (l ∷ a ∷ []) h = refl
short_lids env (l ∷ a ∷ b ∷ d) h = absurd (omega arith)

module _ (s : List ℕ) (i e : ℕ) (p : i ≤ e) (q : e ≤ length s) where
  pub lids_end : e - i < 3 → Goes s (cursor.Lids i e) (cursor.Outer None e) (λ env. to_come s env (cursor.Outer None e))
  unfolding to_come
  lids_end h =
      let l = length-slice i e s q in
      let r : length (slice i e s) < 3 = omega arith in
      record { within = q; less = omega arith; same = λ env. rw (short_lids env (slice i e s) r); ends = refl }

  pub lids_more : 3 ≤ e - i
      → Goes s (cursor.Lids i e) (cursor.Lids (i + 3) e)
      (λ env. lid_column (get_or env (get_or s i 0) no_entry) (get_or s i 0) (get_or s (i + 1) 0) (get_or s (i + 2) 0) ∷ to_come s env (cursor.Lids (i + 3) e))
  unfolding to_come lid_columns
  lids_more h =
      record {
        within = (omega arith, q);
        less = omega arith;
        same = λ env.
            rw (
              add-one,
              add-two,
              add-three,
              slice-cons i e s 0 (omega arith) q,
              slice-cons (suc i) e s 0 (omega arith) q,
              slice-cons (suc (suc i)) e s 0 (omega arith) q,
            );
        ends = refl;
      }
