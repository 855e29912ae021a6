-- N14d: the theorems about the walk, as the row call answers it (specs/WaitingCall.antt). Assumes nothing.
use Prim.Native.Nat.{ℕ, ◌+◌, ◌≤◌, ◌<◌}
use mathlib.Core.Path.{◌≡◌, refl, sym, ap, ◌∙◌}
use mathlib.Core.Bool.{Bool, true, false, cond}
use mathlib.Core.List.{List, [], ◌∷◌, ◌++◌}
use native.Mathlib.Omega.{arith}
use lib.ListN.{length}
use lib.Seq.{take-append-le}
use lib.Dec.{ltb}
use borrow.Author.Tests.{le-ltb, lt-ltb, ltb-false}
use Rattle.refusal.specs.Refusal.{Told, accepted, refused, told_number, input_limit}
use Rattle.unicode_standard.specs.Laws.{AreBytes}
use Rattle.conversion.specs.Conversion.{is_release}
use Rattle.types.specs.declared.Columns.{Columns}
use Rattle.types.specs.Places.{max_columns, covered}
use Rattle.rules.specs.OwnEnd.{all_carry_own_end}
use Rattle.rules.specs.Walk.{Cell, Walk, done, short, skip_of, walk_row}
use Rattle.rules.specs.Meaning.{Conversions}
use Rattle.rules.specs.Row.{RowTold, Decision, refuse, accept, refused_row, row_texts, walk_decision, row_decision, answer_of, answer_with, text_with}
use Rattle.rules.specs.Conversions.{conversions_of, row_answer, row_text}
use Rattle.rules.specs.Demand3.{LargeEnough, Same}
use Rattle.rules.specs.Waiting.{Accepts, zero_bytes, zeros_for, longest_body, all_keep_acceptance}
use Rattle.rules.specs.WaitingCall.{ReachesWalk, Tied, AcceptsIn, WorthWaiting}
use Rattle.rules.proofs.Walks.{used_of, done_walk}
use Rattle.rules.proofs.Rows.{row_used, row_stays}
use Rattle.rules.proofs.Releases.{Answer, After, at_release}
use Rattle.rules.proofs.Demand3.{refused_not, walked_accepted, tested, facts, call_walked, same_walk, texts_are}
use Rattle.rules.proofs.ShortColumn.{values_of, is_short_lem}
use Rattle.rules.proofs.Zeros.{length_zeros}
use Rattle.rules.proofs.Waiting.{zeros_complete}
use Rattle.rules.proofs.StaysAccepted.{stays_accepted_lem}

-- a walk that refusal 9 comes of
is_nine : (L : Conversions) (w : Walk) (d vs : List ℕ) → (answer_of L (walk_decision L w d)).outcome ≡ refused 9 vs
    → (ps : List Cell) × (n : ℕ) × (w ≡ done ps n) × (length (row_texts L ps) ∷ [] ≡ vs)
unfolding walk_decision answer_of
is_nine L (done ps n) d vs e = go (ltb (length d) (length (row_texts L ps))) e
  where
    go : (t : Bool) → (answer_of L (cond t (refuse 9 (length (row_texts L ps) ∷ [])) (accept ps n))).outcome ≡ refused 9 vs
        → (qs : List Cell) × (m : ℕ) × (done ps n ≡ done qs m) × (length (row_texts L qs) ∷ [] ≡ vs)
    go true h = (ps, n, refl, ap values_of h)
    go false h = absurd (omega (arith, ap told_number h))
is_nine L (short x y) d vs e = absurd (omega (arith, ap told_number e))

module _ (release : ℕ) (columns : Columns) where
  -- within the limits the call decides by the walk
  decided : (s d : List ℕ) → ReachesWalk release columns s → (w : Walk) → walk_row (covered columns) s ≡ w
      → row_answer release columns s d ≡ answer_of (conversions_of release) (walk_decision (conversions_of release) w d)
  unfolding row_answer
  decided s d h w e =
      let L = conversions_of release in
      let r = call_walked L columns (le-ltb max_columns columns.count h.few) h.plain s d h.fits in
      rw h.known (ap (answer_of L) (r ∙ ap (λ (x : Walk). walk_decision L x d) e))

  -- an outcome that is none of the refusals before the walk shows that the call is within them, and comes of the walk
  reached : (o : Told) (s d : List ℕ) → ((n : ℕ) → n < 8 → refused n [] ≡ o → ⊥) → (refused 22 [] ≡ o → ⊥) → (row_answer release columns s d).outcome ≡ o
      → ReachesWalk release columns s × ((answer_of (conversions_of release) (walk_decision (conversions_of release) (walk_row (covered columns) s) d)).outcome ≡ o)
  unfolding row_answer
  reached o s d other none e = go (is_release release) refl
    where
      go : (t : Bool) → is_release release ≡ t
          → ReachesWalk release columns s × ((answer_of (conversions_of release) (walk_decision (conversions_of release) (walk_row (covered columns) s) d)).outcome ≡ o)
      go true k =
          let L = conversions_of release in
          let e' : (answer_with L columns s d).outcome ≡ o = rw k at e in
          let t = tested L columns o s d other e' in (
            record { known = k; few = ltb-false max_columns columns.count t.few; fits = t.fits; plain = t.plain },
            sym (ap (λ (x : Decision). (answer_of L x).outcome) t.walked) ∙ e',
          )
      go false k = absurd (none (rw k at e))

  pub too_short_lem : (s d : List ℕ) → ReachesWalk release columns s → (x y : ℕ) → walk_row (covered columns) s ≡ short x y → row_answer release columns s d ≡ refused_row 8 (x ∷ y ∷ [])
  unfolding walk_decision answer_of
  too_short_lem s d h x y e = decided s d h (short x y) e

  pub too_long : (s d : List ℕ) → is_release release ≡ true → columns.count ≤ max_columns → input_limit < length s → row_answer release columns s d ≡ refused_row 4 []
  unfolding row_answer row_decision answer_of
  too_long s d known few l = rw (known, le-ltb max_columns columns.count few, lt-ltb input_limit (length s) l)

  -- what an outcome that comes of the walk says of it
  pub from_8' : (s d vs : List ℕ) → (row_answer release columns s d).outcome ≡ refused 8 vs
      → ReachesWalk release columns s × (x : ℕ) × (y : ℕ) × (walk_row (covered columns) s ≡ short x y) × (x ∷ y ∷ [] ≡ vs)
  from_8' s d vs e =
      let r = reached (refused 8 vs) s d (λ n h z. omega (arith, h, ap told_number z)) (λ z. omega (arith, ap told_number z)) e in
      let w = is_short_lem (conversions_of release) (walk_row (covered columns) s) d vs r.1 in
      (r.0, w.0, w.1, w.2, w.3)

  from_accepted' : (s d : List ℕ) → (row_answer release columns s d).outcome ≡ accepted
      → ReachesWalk release columns s × (ps : List Cell) × (walk_row (covered columns) s ≡ done ps (row_answer release columns s d).used)
  unfolding answer_of
  from_accepted' s d o =
      let L = conversions_of release in
      let w = walk_row (covered columns) s in
      let r = reached accepted s d (λ n h. refused_not n []) (refused_not 22 []) o in
      let a = walked_accepted L w d r.1 in
      let used : (row_answer release columns s d).used ≡ used_of w = ap (λ (x : RowTold). x.used) (decided s d r.0 w refl) ∙ ap (λ (x : Decision). (answer_of L x).used) a.2 in
      let e = done_walk w (row_answer release columns s d).used a.0 (sym used) in
      (r.0, e.0, e.1)

  from_9' : (s d vs : List ℕ) → (row_answer release columns s d).outcome ≡ refused 9 vs
      → ReachesWalk release columns s × (ps : List Cell) × (n : ℕ) × (walk_row (covered columns) s ≡ done ps n) × (length (row_texts (conversions_of release) ps) ∷ [] ≡ vs)
  from_9' s d vs o =
      let L = conversions_of release in
      let r = reached (refused 9 vs) s d (λ n h z. omega (arith, h, ap told_number z)) (λ z. omega (arith, ap told_number z)) o in
      let w = is_nine L (walk_row (covered columns) s) d vs r.1 in
      (r.0, w.0, w.1, w.2, w.3)

  module _ (s d : List ℕ) (h : ReachesWalk release columns s) (ps : List Cell) (n : ℕ) (e : walk_row (covered columns) s ≡ done ps n) where
    accepts' : length (row_texts (conversions_of release) ps) ≤ length d → ((row_answer release columns s d).outcome ≡ accepted) × ((row_answer release columns s d).used ≡ n)
    unfolding walk_decision answer_of
    accepts' l =
        let r = decided s d h (done ps n) e in
        let z = le-ltb (length d) (length (row_texts (conversions_of release) ps)) l in
        (ap (λ (x : RowTold). x.outcome) r ∙ (rw z), ap (λ (x : RowTold). x.used) r ∙ (rw z))

    lacks_text : length d < length (row_texts (conversions_of release) ps) → row_answer release columns s d ≡ refused_row 9 (length (row_texts (conversions_of release) ps) ∷ [])
    unfolding walk_decision answer_of
    lacks_text l = decided s d h (done ps n) e ∙ (rw (lt-ltb (length d) (length (row_texts (conversions_of release) ps)) l))

  -- accepted by the rules is accepted by the call, from the length of its texts on
  pub accepts_in : (s : List ℕ) (n : ℕ) → ReachesWalk release columns s → Accepts (covered columns) s n → AcceptsIn release columns s n
  accepts_in s n h a = (length (row_texts (conversions_of release) a.0), (λ e l. accepts' s e h a.0 n a.1 l), λ e l. lacks_text s e h a.0 n a.1 l)

  -- with bytes behind the row
  pub longer_reaches : (s u : List ℕ) → ReachesWalk release columns s → length (s ++ u) ≤ input_limit → ReachesWalk release columns (s ++ u)
  longer_reaches s u h l = record { known = h.known; few = h.few; fits = l; plain = h.plain }

  completed' : (s d vs : List ℕ) → 2 ≤ length s → (row_answer release columns s d).outcome ≡ refused 8 vs → length s + zeros_for (covered columns) s ≤ input_limit
      → AcceptsIn release columns (s ++ zero_bytes (zeros_for (covered columns) s)) (length s + zeros_for (covered columns) s)
  completed' s d vs two o l =
      let r = from_8' s d vs o in
      let k = zeros_for (covered columns) s in
      accepts_in (s ++ zero_bytes k) (length s + k) (longer_reaches s (zero_bytes k) r.0 (omega (arith, length_zeros s k)))
      (zeros_complete.complete (covered columns) s two (r.1, r.2, r.3))

  has_room_lem : (s d vs : List ℕ) → AreBytes s → 2 ≤ length s → (row_answer release columns s d).outcome ≡ refused 8 vs → skip_of s + longest_body (covered columns) ≤ input_limit
      → length s + zeros_for (covered columns) s ≤ input_limit
  has_room_lem s d vs b two o l = omega (arith, l, zeros_complete.bounded (covered columns) s b two (let r = from_8' s d vs o in (r.1, r.2, r.3)))

  stays_accepted' : all_keep_acceptance (covered columns) ≡ true → (s u d : List ℕ) → 2 ≤ length s → (row_answer release columns s d).outcome ≡ accepted
      → length (s ++ u) ≤ input_limit → (n : ℕ) × AcceptsIn release columns (s ++ u) n
  stays_accepted' own s u d two o l =
      let r = from_accepted' s d o in
      let m = stays_accepted_lem.stays (covered columns) own s u two (row_answer release columns s d).used (r.1, r.2) in
      (m.0, accepts_in (s ++ u) m.0 (longer_reaches s u r.0 l) m.1)

pub tied : (release : ℕ) → Tied release
tied release =
    record {
      short_8 = too_short_lem release;
      from_8 = from_8' release;
      done_accepted = accepts' release;
      done_9 = lacks_text release;
      from_accepted = from_accepted' release;
      from_9 = from_9' release;
    }

-- an accepted row with bytes behind it, at any row call
abbrev Staying : Answer → After → Type 0
Staying answer after =
    (columns : Columns) → all_carry_own_end (covered columns) ≡ true → (s u d e : List ℕ) → 2 ≤ length s → (answer columns s d).outcome ≡ accepted
    → length (s ++ u) ≤ input_limit → LargeEnough (answer columns s d) e → Same answer after columns (s ++ u) e s d

staying : (release : ℕ) → Staying (row_answer release) (row_text release)
staying release = at_release release Staying at_conversions (λ columns own s u d e two o l room. absurd (refused_not 22 [] o))
  where
    at_conversions : Staying (answer_with (conversions_of release)) (text_with (conversions_of release))
    at_conversions columns own s u d e two o l room =
        let L = conversions_of release in
        let f = facts L columns s d o in
        let cs = covered columns in
        same_walk L columns s d (s ++ u) e f l (row_stays cs own s u two f.over) (take-append-le (used_of (walk_row cs s)) s u (row_used cs s f.over).1)
        (omega (arith, room, texts_are L columns s d f))

pub worth_waiting : (release : ℕ) → WorthWaiting release
worth_waiting release =
    record { completed = completed' release; has_room = has_room_lem release; stays = staying release; stays_accepted = stays_accepted' release }
