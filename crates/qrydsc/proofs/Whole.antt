-- What the two entries say of descriptions that break off (specs/Whole.antt): of every description. Assumes nothing.
use Rattle.std.specs.Prelude.{Option, None}
use Prim.Native.Nat.{ℕ, zero, suc, ◌+◌, ◌-◌, ◌≤◌}
use mathlib.Core.Path.{◌≡◌, refl, sym, ap, subst, ◌∙◌}
use mathlib.Core.Bool.{Bool, true, false, cond, ◌&&◌}
use mathlib.Core.List.{List, [], ◌∷◌, ◌++◌, append_assoc, append-nil}
use native.Mathlib.Omega.{arith}
use lib.Dec.{ltb, eqb, leb}
use lib.ListN.{length, get_or, take, drop, length-drop, length-append, take-append-drop}
use lib.Seq.{take_at, drop_at, take-length, take-append-add, length-take-le}
use borrow.Author.Tests.{ltb-true, ltb-false, le-leb, lt-leb, leb-true}
use Rattle.refusal.specs.Refusal.{Told, accepted, told_number}
use Rattle.types.specs.declared.ColumnDescriptor.{ColumnDescriptor}
use Rattle.types.specs.declared.Columns.{Columns}
use Rattle.types.specs.Places.{max_columns, column_list}
use Rattle.triplets.specs.Triplets.{Triplet, Reading, triplet, first_triplet, begins, cons_triplet, reading, breaks_off}
use Rattle.triplets.specs.Descriptors.{Environment, no_entries, pending_after, environment_after, triplet_columns, columns_from, columns_of}
use Rattle.triplets.proofs.ReadingLaws.{begun, reading_more, reading_none}
use Rattle.qrydsc.specs.Qrydsc.{numbered, DescriptionTold, refused_description, list_answer, max_qrydsc, description, whole_description}
use Rattle.qrydsc.specs.Origins.{OrderedByOrigin}
use Rattle.qrydsc.proofs.Lists.{Ordered, ordered_none, description_ordered}
use Rattle.qrydsc.proofs.Origins.{none_by_origin, description_by_origin}
use Rattle.qrydsc.specs.Whole.{sent, sent_all, WholeBytes, SaysBrokenOff, AsPorted, AcceptsWhole, RefusesBroken, Boundary, Beginnings}

-- ---- what is read, written out again

cut : (k y : ℕ) (r : List ℕ) → y ≤ length r → ◌≡◌ {A = List ℕ} ((2 + length (take y r)) ∷ k ∷ take y r) (take (suc (suc y)) (suc (suc y) ∷ k ∷ r))
cut k y r h =
    let l = length-take-le y r h in
    ap (λ (n : ℕ). n ∷ k ∷ take y r) (omega arith)

first_sent : (s : List ℕ) → begins 2 s ≡ true → sent (first_triplet s) ≡ take (get_or s 0 0) s
first_sent [] e = absurd (omega (arith, (begun 2 [] e).two))
first_sent (x ∷ []) e = absurd (omega (arith, (begun 2 (x ∷ []) e).enough))
first_sent (x ∷ k ∷ r) e =
    let b = begun 2 (x ∷ k ∷ r) e in
    let y : ℕ = x - 2 in
    let q : suc (suc y) ≡ x = omega (arith, b.two) in
    subst (λ (n : ℕ). ◌≡◌ {A = List ℕ} ((2 + length (take y r)) ∷ k ∷ take y r) (take n (n ∷ k ∷ r))) q (cut k y r (omega (arith, b.fits)))

sent_back : (n : ℕ) (s : List ℕ) → length s ≤ n → sent_all (reading 2 s).triplets ++ (reading 2 s).unread ≡ s
unfolding sent_all
sent_back zero s h = go (begins 2 s) refl
  where
    go : (b : Bool) → begins 2 s ≡ b → sent_all (reading 2 s).triplets ++ (reading 2 s).unread ≡ s
    go true e = absurd (omega (arith, (begun 2 s e).enough))
    go false e = rw (reading_none 2 s e)
sent_back (suc n) s h = go (sent_back n (drop (get_or s 0 0) s)) (begins 2 s) refl
  where
    rest : List ℕ
    rest = drop (get_or s 0 0) s

    go : (length rest ≤ n → sent_all (reading 2 rest).triplets ++ (reading 2 rest).unread ≡ rest)
        → (b : Bool) → begins 2 s ≡ b → sent_all (reading 2 s).triplets ++ (reading 2 s).unread ≡ s
    go again true e =
        let f = begun 2 s e in
        let d = length-drop (get_or s 0 0) s in
        ap (λ (r : Reading). sent_all r.triplets ++ r.unread) (reading_more 2 s e)
        ∙ append_assoc (sent (first_triplet s)) (sent_all (reading 2 rest).triplets) (reading 2 rest).unread
        ∙ ap (λ (t : List ℕ). sent (first_triplet s) ++ t) (again (omega (arith, f.two, f.fits)))
        ∙ ap (λ (t : List ℕ). t ++ rest) (first_sent s e)
        ∙ take-append-drop (get_or s 0 0) s
    go again false e = rw (reading_none 2 s e)

-- ---- what is written, read again

begins_sent : (t : Triplet) (v : List ℕ) → begins 2 (sent t ++ v) ≡ true
begins_sent t v =
    let l = length-append t.body v in
    let n : ℕ = suc (suc (length (t.body ++ v))) in
    rw (le-leb 2 n (omega arith), le-leb 2 (2 + length t.body) (omega arith), le-leb (2 + length t.body) n (omega arith))

same_first : (t : Triplet) (v : List ℕ) → first_triplet (sent t ++ v) ≡ t
same_first t v =
    let z : 2 + length t.body - 2 ≡ length t.body = omega arith in
    ap (triplet t.kind) (ap (λ (n : ℕ). take n (t.body ++ v)) z ∙ take_at t.body v (length t.body) refl)

behind_first : (t : Triplet) (v : List ℕ) → drop (2 + length t.body) (sent t ++ v) ≡ v
behind_first t v = drop_at (sent t) v (2 + length t.body) (omega arith)

before : List Triplet → Reading → Reading
before ts r = record { triplets = ts ++ r.triplets; unread = r.unread }

read_again : (ts : List Triplet) (u : List ℕ) → reading 2 (sent_all ts ++ u) ≡ before ts (reading 2 u)
unfolding sent_all before
read_again [] u = refl
read_again (t ∷ ts) u =
    let v : List ℕ = sent_all ts ++ u in
    ap (reading 2) (append_assoc (sent t) (sent_all ts) u)
    ∙ reading_more 2 (sent t ++ v) (begins_sent t v)
    ∙ ap (λ (f : Triplet). cons_triplet f (reading 2 (drop (2 + length t.body) (sent t ++ v)))) (same_first t v)
    ∙ ap (λ (w : List ℕ). cons_triplet t (reading 2 w)) (behind_first t v)
    ∙ ap (cons_triplet t) (read_again ts u)

read_whole_lem : (ts : List Triplet) → reading 2 (sent_all ts) ≡ (record { triplets = ts; unread = [] })
unfolding before
read_whole_lem ts =
    ap (reading 2) (sym (append-nil (sent_all ts)))
    ∙ read_again ts []
    ∙ ap (before ts) (reading_none 2 [] refl)
    ∙ ap (λ (l : List Triplet). record { triplets = l; unread = [] }) (append-nil ts)

-- ---- whole bytes

none_left : (s : List ℕ) → breaks_off s ≡ false → (reading 2 s).unread ≡ []
unfolding breaks_off
none_left s h = go (reading 2 s).unread h
  where
    go : (u : List ℕ) → ltb 0 (length u) ≡ false → u ≡ []
    go [] e = refl
    go (x ∷ u) e = let z = ltb-false 0 (suc (length u)) e in absurd (omega arith)

whole_sent : (s : List ℕ) → breaks_off s ≡ false → sent_all (reading 2 s).triplets ≡ s
whole_sent s h =
    sym (append-nil (sent_all (reading 2 s).triplets))
    ∙ ap (λ (u : List ℕ). sent_all (reading 2 s).triplets ++ u) (sym (none_left s h))
    ∙ sent_back (length s) s (omega arith)

sent_whole : (ts : List Triplet) → breaks_off (sent_all ts) ≡ false
unfolding breaks_off
sent_whole ts = rw (read_whole_lem ts)

pub whole_bytes : (s : List ℕ) → WholeBytes s
whole_bytes s = record { triplets = whole_sent s; unbroken = λ ts e. subst (λ (t : List ℕ). breaks_off t ≡ false) e (sent_whole ts) }

-- ---- what is answered

-- by whether the length is beyond the limit, whether the description breaks off, and whether the columns are too many
abbrev ported : Bool → Bool → List ColumnDescriptor → DescriptionTold
ported long broken cs = cond long (refused_description 1 []) (list_answer broken cs)

abbrev whole : Bool → Bool → List ColumnDescriptor → DescriptionTold
whole long broken cs = cond long (refused_description 1 []) (cond broken (refused_description 15 []) (list_answer false cs))

not_long : (s : List ℕ) → leb (length s) max_qrydsc ≡ cond (ltb max_qrydsc (length s)) false true
not_long s = go (ltb max_qrydsc (length s)) refl
  where
    go : (b : Bool) → ltb max_qrydsc (length s) ≡ b → leb (length s) max_qrydsc ≡ cond b false true
    go true t = lt-leb (length s) max_qrydsc (ltb-true max_qrydsc (length s) t)
    go false t = le-leb (length s) max_qrydsc (ltb-false max_qrydsc (length s) t)

listed_says : (b : Bool) (cs : List ColumnDescriptor) → (list_answer b cs).broken_off ≡ (eqb (told_number (list_answer b cs).outcome) 0 && b)
unfolding list_answer
listed_says b cs = go (ltb max_columns (length cs))
  where
    answer : Bool → DescriptionTold
    answer m = cond m (refused_description 2 []) (record { outcome = accepted; columns = column_list (numbered 0 cs); broken_off = b })

    go : (m : Bool) → (answer m).broken_off ≡ (eqb (told_number (answer m).outcome) 0 && b)
    go true = refl
    go false = refl

pub says_broken_off : (s : List ℕ) → SaysBrokenOff s
unfolding description
says_broken_off s = go (ltb max_qrydsc (length s))
  where
    go : (m : Bool) → (ported m (breaks_off s) (columns_of s)).broken_off ≡ (eqb (told_number (ported m (breaks_off s) (columns_of s)).outcome) 0 && breaks_off s)
    go true = refl
    go false = listed_says (breaks_off s) (columns_of s)

pub as_ported : (s : List ℕ) → AsPorted s
unfolding description whole_description
as_ported s = rw (not_long s) (go (ltb max_qrydsc (length s)) (breaks_off s))
  where
    go : (m b : Bool) → whole m b (columns_of s) ≡ cond (cond m false true && b) (refused_description 15 []) (ported m b (columns_of s))
    go true true = refl
    go true false = refl
    go false true = refl
    go false false = refl

-- what holds of the lists of the ported entry, and of the blank one, holds of the new entry's
whole_columns : (P : Columns → Type 0) (s : List ℕ) → P (column_list []) → P (description s).columns → P (whole_description s).columns
whole_columns P s none d = subst (λ (t : DescriptionTold). P t.columns) (sym (as_ported s)) (go (leb (length s) max_qrydsc && breaks_off s))
  where
    go : (b : Bool) → P (cond b (refused_description 15 []) (description s)).columns
    go true = none
    go false = d

pub whole_ordered : (s : List ℕ) → Ordered (whole_description s).columns
whole_ordered s = whole_columns Ordered s ordered_none (description_ordered s)

pub whole_by_origin : (s : List ℕ) → OrderedByOrigin (whole_description s).columns
whole_by_origin s = whole_columns OrderedByOrigin s none_by_origin (description_by_origin s)

-- with what stands before the ported answer tested
module _ (s : List ℕ) where
  refuses : Bool
  refuses = leb (length s) max_qrydsc && breaks_off s

  answered : (b : Bool) → refuses ≡ b → whole_description s ≡ cond b (refused_description 15 []) (description s)
  unfolding refuses
  answered b e = as_ported s ∙ ap (λ (t : Bool). cond t (refused_description 15 []) (description s)) e

  both : (a b : Bool) → (a && b) ≡ true → (a ≡ true) × (b ≡ true)
  both true b e = (refl, e)
  both false b e = let z : ◌≡◌ {A = ℕ} 0 1 = cc in absurd (omega arith)

  either : (a b : Bool) → (a && b) ≡ false → a ≡ true → b ≡ false
  either true b e t = e
  either false b e t = let z : ◌≡◌ {A = ℕ} 0 1 = cc in absurd (omega arith)

  number_of : {x y : Told} → x ≡ y → told_number x ≡ told_number y
  number_of e = ap told_number e

  outcome_of : {x y : DescriptionTold} → x ≡ y → x.outcome ≡ y.outcome
  outcome_of e = ap (λ (d : DescriptionTold). d.outcome) e

  -- what is not refused with 1 is within the length limit
  short : (told_number (description s).outcome ≡ 1 → ⊥) → leb (length s) max_qrydsc ≡ true
  unfolding description
  short h = go (ltb max_qrydsc (length s)) refl h
    where
      go : (m : Bool) → ltb max_qrydsc (length s) ≡ m → (told_number (ported m (breaks_off s) (columns_of s)).outcome ≡ 1 → ⊥) → leb (length s) max_qrydsc ≡ true
      go true t n = absurd (n refl)
      go false t n = le-leb (length s) max_qrydsc (ltb-false max_qrydsc (length s) t)

  -- an accepted description is said to break off where it does
  says : (description s).outcome ≡ accepted → (description s).broken_off ≡ breaks_off s
  says a = says_broken_off s ∙ ap (λ (t : Told). eqb (told_number t) 0 && breaks_off s) a

  pub accepts_whole : AcceptsWhole s
  unfolding refuses
  accepts_whole = go refuses refl
    where
      go : (b : Bool) → refuses ≡ b → AcceptsWhole s
      go true e =
          let w = answered true e in
          let no : (whole_description s).outcome ≡ accepted → ⊥ = λ a. (let n = number_of (sym (outcome_of w) ∙ a) in omega arith) in
          record {
            same = λ a. absurd (no a);
            unbroken = λ a. absurd (no a);
            all = λ a f. absurd (let z : true ≡ false = sym (both (leb (length s) max_qrydsc) (breaks_off s) e).1 ∙ sym (says a) ∙ f in let y : ◌≡◌ {A = ℕ} 0 1 = cc in omega arith);
          }
      go false e =
          let w = answered false e in
          record {
            same = λ a. w;
            unbroken = λ a. (let d = sym (outcome_of w) ∙ a in says d ∙ either (leb (length s) max_qrydsc) (breaks_off s) e (short (λ n. (let z = number_of d in omega arith))));
            all = λ a f. outcome_of w ∙ a;
          }

  ported_number : (m : Bool) → told_number (ported m (breaks_off s) (columns_of s)).outcome ≡ 15 → ⊥
  unfolding list_answer
  ported_number true e = omega arith
  ported_number false e = go (ltb max_columns (length (columns_of s))) e
    where
      answer : Bool → DescriptionTold
      answer m = cond m (refused_description 2 []) (record { outcome = accepted; columns = column_list (numbered 0 (columns_of s)); broken_off = breaks_off s })

      go : (m : Bool) → told_number (answer m).outcome ≡ 15 → ⊥
      go true h = omega arith
      go false h = omega arith

  never : told_number (description s).outcome ≡ 15 → ⊥
  unfolding description
  never e = ported_number (ltb max_qrydsc (length s)) e

  pub refuses_broken : RefusesBroken s
  unfolding refuses
  refuses_broken =
      record {
        broken = go refuses refl;
        all = λ h b. answered true (rw (le-leb (length s) max_qrydsc h) b);
        before_2 = λ d b. outcome_of (answered true (rw (short (λ n. (let z = number_of d in omega arith))) b));
        new = never;
      }
    where
      go : (b : Bool) → refuses ≡ b → told_number (whole_description s).outcome ≡ 15 → (length s ≤ max_qrydsc) × (breaks_off s ≡ true)
      go true e o = let p = both (leb (length s) max_qrydsc) (breaks_off s) e in (leb-true (length s) max_qrydsc p.0, p.1)
      go false e o = absurd (never (number_of (sym (outcome_of (answered false e))) ∙ o))

-- ---- beginnings

sent_append : (xs ys : List Triplet) → sent_all (xs ++ ys) ≡ sent_all xs ++ sent_all ys
unfolding sent_all
sent_append [] ys = refl
sent_append (t ∷ xs) ys = ap (λ (l : List ℕ). sent t ++ l) (sent_append xs ys) ∙ sym (append_assoc (sent t) (sent_all xs) (sent_all ys))

-- the columns of the first triplets are the first columns
first_columns_lem : (p : Option ℕ) (env : Environment) (k : ℕ) (ts : List Triplet)
    → columns_from p env (take k ts) ≡ take (length (columns_from p env (take k ts))) (columns_from p env ts)
unfolding columns_from
first_columns_lem p env zero ts = refl
first_columns_lem p env (suc k) [] = refl
first_columns_lem p env (suc k) (t ∷ ts) =
    let xs = triplet_columns p env t in
    let some = columns_from (pending_after t) (environment_after p env t) (take k ts) in
    let all = columns_from (pending_after t) (environment_after p env t) ts in
    ap (λ (l : List ColumnDescriptor). xs ++ l) (first_columns_lem (pending_after t) (environment_after p env t) k ts)
    ∙ sym (take-append-add xs all (length some))
    ∙ ap (λ (n : ℕ). take n (xs ++ all)) (sym (length-append xs some))

module _ (s : List ℕ) where
  ts : List Triplet
  ts = (reading 2 s).triplets

  -- the bytes are those of the first triplets, of the others, and what is left unread
  split : (k : ℕ) → s ≡ sent_all (take k ts) ++ (sent_all (drop k ts) ++ (reading 2 s).unread)
  unfolding ts
  split k =
      sym (sent_back (length s) s (omega arith))
      ∙ ap (λ (l : List Triplet). sent_all l ++ (reading 2 s).unread) (sym (take-append-drop k ts))
      ∙ ap (λ (l : List ℕ). l ++ (reading 2 s).unread) (sent_append (take k ts) (drop k ts))
      ∙ append_assoc (sent_all (take k ts)) (sent_all (drop k ts)) (reading 2 s).unread

  up_to_fits : (m : ℕ) → Boundary ts m → m ≤ length s
  up_to_fits m b =
      let rest = sent_all (drop b.0 ts) ++ (reading 2 s).unread in
      let l = ap length (split b.0) ∙ length-append (sent_all (take b.0 ts)) rest in
      omega (arith, l, b.1)

  -- the bytes up to a boundary are the triplets up to there
  up_to : (m : ℕ) (b : Boundary ts m) → take m s ≡ sent_all (take b.0 ts)
  up_to m b =
      let k = b.0 in
      ap (take m) (split k) ∙ take_at (sent_all (take k ts)) (sent_all (drop k ts) ++ (reading 2 s).unread) m (sym b.1)

  is_boundary : (m : ℕ) → m ≤ length s → breaks_off (take m s) ≡ false → Boundary ts m
  unfolding ts before
  is_boundary m h w =
      let xs = (reading 2 (take m s)).triplets in
      let back : sent_all xs ≡ take m s = whole_sent (take m s) w in
      let all : (reading 2 s).triplets ≡ xs ++ (reading 2 (drop m s)).triplets =
      ap (λ (l : List ℕ). (reading 2 l).triplets) (sym (take-append-drop m s) ∙ ap (λ (l : List ℕ). l ++ drop m s) (sym back))
      ∙ ap (λ (r : Reading). r.triplets) (read_again xs (drop m s)) in
      (length xs, sym (length-take-le m s h) ∙ ap length (sym back) ∙ ap (λ (l : List Triplet). length (sent_all l)) (sym (ap (take (length xs)) all ∙ take_at xs (reading 2 (drop m s)).triplets (length xs) refl)))

  columns_up_to : (m : ℕ) → Boundary ts m → columns_of (take m s) ≡ take (length (columns_of (take m s))) (columns_of s)
  unfolding ts columns_of
  columns_up_to m b =
      let r : (reading 2 (take m s)).triplets ≡ take b.0 ts = ap (λ (l : List ℕ). (reading 2 l).triplets) (up_to m b) ∙ ap (λ (q : Reading). q.triplets) (read_whole_lem (take b.0 ts)) in
      rw r (first_columns_lem None no_entries b.0 ts)

  pub beginnings : Beginnings s
  unfolding ts
  beginnings =
      record {
        boundary = is_boundary;
        unbroken = λ m b. (up_to_fits m b, subst (λ (l : List ℕ). breaks_off l ≡ false) (sym (up_to m b)) (sent_whole (take b.0 ts)));
        columns = columns_up_to;
        end = λ w. (length ts, sym (ap length (whole_sent s w)) ∙ ap (λ (l : List Triplet). length (sent_all l)) (sym (take-length ts)));
      }
