-- What holds while the columns of a description are counted: those counted and those to come are all. The environment that tells which columns
-- come is not kept by the code: that there is one is enough. Assumes nothing.
use Rattle.std.specs.Prelude.{Option, None, Some}
use mathlib.Core.Path.{◌≡◌, refl, ap, ◌∙◌}
use mathlib.Core.Bool.{Bool, true, false, cond}
use mathlib.Core.List.{List, [], ◌∷◌}
use mathlib.Core.Logic.{inl, inr}
use types.Run.{OneOf}
use Prim.Native.Nat.{ℕ, ◌+◌, ◌-◌, ◌/◌, ◌≤◌}
use native.Mathlib.Omega.{arith}
use lib.Dec.{eqb}
use lib.ListN.{length, get_or, drop, length-drop, length-append}
use lib.Seq.{slice, length-slice}
use borrow.Author.Tests.{eq-eqb, ne_eqb}
use Rattle.types.specs.declared.ColumnDescriptor.{ColumnDescriptor}
use Rattle.triplets.specs.Descriptors.{Environment, pending_after, no_entries, environment_after, sda_columns, outer_sda, lid_columns, inner_columns, group_columns, triplet_columns, columns_from, columns_of}
use Rattle.triplets.specs.Triplets.{triplet, reading_of, reading}
use Rattle.triplets.specs.Steps.{outer_from, end_from, to_come}
use Rattle.triplets.proofs.Slices.{slice_all}
use Rattle.triplets.proofs.StepLaws.{end_here, end_after}
use Rattle.triplets.proofs.ReadingLaws.{Found}
use Rattle.qrydsc.proofs.Progress.{all_to_come}
use Rattle.description_words.specs.Counted.{Counts, Counted}

-- ---- SDAs
module _ (d : List ℕ) where
  pub sda_one : (k : ℕ) → k ≡ 0x70 → (length d ≡ 0 → ⊥) → Counts (length d) (λ env. cond (eqb k 0x70) (sda_columns d) []) 1
  unfolding sda_columns
  sda_one k e h = record { few = omega (arith, h); same = λ env. rw (eq-eqb _ _ e, ne_eqb _ _ h) }

  pub sda_empty : (k : ℕ) → length d ≡ 0 → Counts (length d) (λ env. cond (eqb k 0x70) (sda_columns d) []) 0
  unfolding sda_columns
  sda_empty k h = record { few = omega arith; same = λ env. rw (eq-eqb _ _ h) (go (eqb k 0x70)) }
    where
      go : (b : Bool) → 0 ≡ length (cond {A = List ColumnDescriptor} b [] [])
      go true = refl
      go false = refl

  pub sda_other : (k : ℕ) → (k ≡ 0x70 → ⊥) → Counts (length d) (λ env. cond (eqb k 0x70) (sda_columns d) []) 0
  sda_other k h = record { few = omega arith; same = λ env. rw (ne_eqb _ _ h) }

-- ---- inner triplets
pub record CountingInner (s : List ℕ) (k i : ℕ) : Type 0 where
  pub low : k ≤ i
  pub high : i ≤ length s
  pub total : k + length (inner_columns (reading 3 (slice i (length s) s)).triplets) ≡ length (inner_columns (reading 3 s).triplets)

pub inner_start : (s : List ℕ) → CountingInner s 0 0
inner_start s = record { low = omega arith; high = omega arith; total = rw (slice_all s) (omega arith) }

module _ {s : List ℕ} {k i : ℕ} (c : CountingInner s k i) where
  pub inner_end : (reading 3 (slice i (length s) s)).triplets ≡ [] → Counts (length s) (λ env. inner_columns (reading 3 s).triplets) k
  unfolding inner_columns
  inner_end h = record { few = omega (arith, c.low, c.high); same = λ env. omega (arith, (rw h at c.total)) }

  pub inner_more : (kind m r : ℕ) → Found 3 s i (length s) kind m → (d : List ℕ) → d ≡ slice (i + 2) m s
      → Counts (length d) (λ env. cond (eqb kind 0x70) (sda_columns d) []) r → CountingInner s (k + r) m
  unfolding inner_columns
  inner_more kind m r f d q n =
      let l = f.low in
      let h = f.high in
      let t = (rw f.more at c.total) in
      let one = (rw q at (n.same [])) in
      let long = length-slice (i + 2) m s h in
      let few : r ≤ length (slice (i + 2) m s) = (rw q at n.few) in
      let both = length-append (cond (eqb kind 0x70) (sda_columns (slice (i + 2) m s)) []) (inner_columns (reading 3 (slice m (length s) s)).triplets) in
      record { low = omega (arith, c.low); high = h; total = omega arith }

-- ---- groups
threes : (env : Environment) (d : List ℕ) → length (lid_columns env d) ≡ length d / 3
unfolding lid_columns
threes env [] = refl
threes env (l ∷ []) = refl
threes env (l ∷ a ∷ []) = refl
threes env (l ∷ a ∷ b ∷ d) = let n = threes env d in omega arith

module _ (d : List ℕ) where
  pub group_lids : get_or d 0 0 ≡ 0xD0 → Counts (length d) (λ env. group_columns env d) ((length d - 1) / 3)
  unfolding group_columns
  group_lids z =
      let n = length-drop 1 d in
      record { few = omega arith; same = λ env. rw (eq-eqb _ _ z) (let t = threes env (drop 1 d) in omega arith) }

  pub group_inner : (r : ℕ) → Counts (length d) (λ env. inner_columns (reading 3 d).triplets) r → (get_or d 0 0 ≡ 0xD0 → ⊥)
      → Counts (length d) (λ env. group_columns env d) r
  unfolding group_columns
  group_inner r n z = record { few = n.few; same = λ env. rw (ne_eqb _ _ z) (n.same env) }

pub group_empty : (d : List ℕ) → length d ≡ 0 → Counts (length d) (λ env. group_columns env d) 0
unfolding group_columns inner_columns reading reading_of
group_empty [] h = record { few = omega arith; same = λ env. refl }
group_empty (x ∷ d) h = absurd (omega arith)

-- ---- outer triplets
module _ (k : ℕ) (d : List ℕ) where
  pub triplet_group : (pend : Option ℕ) (r : ℕ) → k ≡ 0x76 → Counts (length d) (λ env. group_columns env d) r → Counts (length d) (λ env. triplet_columns pend env (triplet k d)) r
  unfolding triplet_columns
  triplet_group pend r h c = record { few = c.few; same = λ env. rw h (c.same env) }

  pub triplet_sda : (r : ℕ) → (k ≡ 0x76 → ⊥) → Counts (length d) (λ env. cond (eqb k 0x70) (sda_columns d) []) r → Counts (length d) (λ env. triplet_columns None env (triplet k d)) r
  unfolding triplet_columns outer_sda
  triplet_sda r h c = record { few = c.few; same = λ env. rw (ne_eqb _ _ h) (c.same env) }

  pub triplet_pending : (mdd : ℕ) → (k ≡ 0x76 → ⊥) → Counts (length d) (λ env. triplet_columns (Some mdd) env (triplet k d)) 0
  unfolding triplet_columns outer_sda
  triplet_pending mdd h = record { few = omega arith; same = λ env. rw (ne_eqb _ _ h) (go (eqb k 0x70)) }
    where
      go : (b : Bool) → 0 ≡ length (cond {A = List ColumnDescriptor} b [] [])
      go true = refl
      go false = refl

-- k columns are counted before the outer triplet at a place
pub record Counting (s : List ℕ) (k i : ℕ) (pend : Option ℕ) : Type 0 where
  pub within : i ≤ length s
  pub few : k ≤ i
  pub environment : Environment
  pub total : k + length (columns_from pend environment (outer_from s i)) ≡ length (columns_of s)
  pub ends : end_from s i ≡ end_from s 0

pub counting_start : (s : List ℕ) → Counting s 0 0 None
unfolding to_come
counting_start s = record { within = omega arith; few = omega arith; environment = no_entries; total = omega (arith, ap length (all_to_come s)); ends = refl }

module _ {s : List ℕ} {k i : ℕ} {pend : Option ℕ} (c : Counting s k i pend) where
  pub counting_end : (reading 2 (slice i (length s) s)).triplets ≡ [] → (reading 2 (slice i (length s) s)).unread ≡ slice i (length s) s → Counted s k i
  unfolding columns_from
  counting_end h u =
      let t = (rw h at c.total) in
      record {
        all = λ few. omega arith;
        more = λ many. omega arith;
        within = c.within;
        ends = c.ends;
        ended = λ few. end_here s i c.within u ∙ c.ends;
      }

  -- a triplet of another kind
  pub counting_silent : (kind m : ℕ) → Found 2 s i (length s) kind m → (OneOf (0x70 ∷ 0x76 ∷ 0x78 ∷ []) kind → ⊥) → Counting s k m None
  unfolding columns_from triplet_columns pending_after
  counting_silent kind m f o =
      let l = f.low in
      let sda = ne_eqb kind 0x70 (λ e. o (inl e)) in
      let gda = ne_eqb kind 0x76 (λ e. o (inr (inl e))) in
      let mdd = ne_eqb kind 0x78 (λ e. o (inr (inr e))) in
      record {
        within = f.high;
        few = omega (arith, c.few);
        environment = environment_after pend c.environment (triplet kind (slice (i + 2) m s));
        total = (rw (f.more, sda, gda, mdd) at c.total);
        ends = end_after f ∙ c.ends;
      }

  pub counting_more : (kind m r : ℕ) → Found 2 s i (length s) kind m → (d : List ℕ) → d ≡ slice (i + 2) m s
      → Counts (length d) (λ env. triplet_columns pend env (triplet kind d)) r
      → Counting s (k + r) m (pending_after (triplet kind d))
  unfolding columns_from
  counting_more kind m r f d q n =
      let l = f.low in
      let h = f.high in
      let body = triplet kind (slice (i + 2) m s) in
      let t = (rw f.more at c.total) in
      let one = (rw q at (n.same c.environment)) in
      let long = length-slice (i + 2) m s h in
      let few : r ≤ length (slice (i + 2) m s) = (rw q at n.few) in
      let both = length-append (triplet_columns pend c.environment body) (columns_from (pending_after body) (environment_after pend c.environment body) (outer_from s m)) in
      rw q (record { within = h; few = omega (arith, c.few); environment = environment_after pend c.environment body; total = omega arith; ends = end_after f ∙ c.ends })
