-- N14b: an accepted row stays accepted with bytes added behind it, also where LobBytes and LobChar of 1,024 bytes or more are among its columns. Such a value takes all that is
-- left, or what it declares; the columns behind one that took all have taken nothing, and go on taking nothing. And the same law with zeros, for the least number of them.
-- Assumes nothing.
use Prim.Native.Nat.{ℕ, zero, suc, ◌+◌, ◌≤◌}
use mathlib.Core.Path.{◌≡◌, refl, sym, ap, ◌∙◌, subst}
use mathlib.Core.Bool.{Bool, true, false, cond, not, ◌||◌, true≢false}
use mathlib.Core.List.{List, [], ◌∷◌, ◌++◌}
use mathlib.Core.Logic.{◌⊎◌, inl, inr, ⊎_elim}
use native.Mathlib.Omega.{arith}
use native.Mathlib.Nat.{zero-add}
use lib.ListN.{length, take, drop, length-append}
use lib.Seq.{drop-append-le, drop-length}
use lib.Dec.{eqb}
use Rattle.std.proofs.lemmas.Bool.{cases_lt, not-true, and_parts, and_from, or_parts}
use Rattle.types.specs.declared.ColumnDescriptor.{ColumnDescriptor}
use Rattle.rules.specs.declared.Extent.{Extent}
use Rattle.rules.specs.declared.Extent.TheVariants.{Fixed, Counted, Header, Inline, Locator, Materialized}
use Rattle.rules.specs.Extent.{is_hex_digit, hex_digits, is_short_reference, need, extent_of}
use Rattle.rules.specs.OwnEnd.{is_long_materialized, is_lob_of_length0, is_tiny_header, carries_own_end, all_carry_own_end}
use Rattle.rules.specs.Walk.{nullable_need, column_need, cell_of, walk, walk_row, skip_of}
use Rattle.rules.specs.Waiting.{Accepts, zero_bytes, settling, filled_need, keeps_acceptance, all_keep_acceptance, StaysAccepted}
use Rattle.rules.proofs.Extents.{is_locator, is_short_header, is_unlisted, unlisted_stays, whole_of, short_is, is_short_reference_lem, materialized_there, column_exceptions}
use Rattle.rules.proofs.Walks.{is_done, used_of, done_walk, by_indicator, walk_step, walk_first, walk_rest, cons_done}
use Rattle.rules.proofs.Rows.{skip_append, skip_fits, walk_row_at}
use Rattle.rules.proofs.Zeros.{length_zeros, zeros_zeros, settled_alike}

-- bytes added behind a value that is there change nothing; or it took all that there was, and is there again
abbrev Keeps : (List ℕ → ℕ) → Type 0
Keeps f = (s u : List ℕ) → f s ≤ length s → (f (s ++ u) ≡ f s) ⊎ ((f s ≡ length s) × (f (s ++ u) ≤ length (s ++ u)))

hex_append : (s u : List ℕ) → hex_digits s ≤ hex_digits (s ++ u)
unfolding hex_digits
hex_append [] u = omega arith
hex_append (b ∷ s) u = omega (arith, hex_append s u)

materialized_keeps : (n : ℕ) → Keeps (need (Materialized n))
materialized_keeps n s u h = go (is_short_reference n s) refl
  where
    again : is_short_reference n s ≡ true → (t : Bool) → is_short_reference n (s ++ u) ≡ t → need (Materialized n) (s ++ u) ≤ length (s ++ u)
    again e true f = omega (arith, whole_of n (s ++ u) true f)
    again e false f = ⊎_elim
        (λ l.
        let p = short_is n s e in
        absurd (true≢false (sym (is_short_reference_lem n (s ++ u) p.0 (omega (arith, p.1, length-append s u)) l (omega (arith, p.3, hex_append s u))) ∙ f)))
        (λ l. omega (arith, whole_of n (s ++ u) false f))
        (cases_lt (length (s ++ u)) n)

    go : (t : Bool) → is_short_reference n s ≡ t
        → (need (Materialized n) (s ++ u) ≡ need (Materialized n) s) ⊎ ((need (Materialized n) s ≡ length s) × (need (Materialized n) (s ++ u) ≤ length (s ++ u)))
    go true e = inr (whole_of n s true e, again e (is_short_reference n (s ++ u)) refl)
    go false e =
        let w = whole_of n s false e in
        inl (materialized_there n (s ++ u) (omega (arith, length-append s u)) ∙ sym w)

keeps : (e : Extent) → (is_locator e || is_short_header e) ≡ false → Keeps (need e)
keeps (Fixed n) t s u h = inl (unlisted_stays (Fixed n) refl s u h)
keeps (Counted w) t s u h = inl (unlisted_stays (Counted w) refl s u h)
keeps (Header n) t s u h = inl (unlisted_stays (Header n) (ap not t) s u h)
keeps Inline t s u h = inl (unlisted_stays Inline refl s u h)
keeps Locator t s u h = absurd (true≢false t)
keeps (Materialized n) t s u h = materialized_keeps n s u h

nullable_keeps : (e : Extent) → Keeps (need e) → Keeps (nullable_need e)
unfolding nullable_need
nullable_keeps e f [] u h = absurd (omega arith)
nullable_keeps e f (b ∷ s) u h = go (eqb b 255) h
  where
    go : (t : Bool) → cond t 1 (1 + need e s) ≤ suc (length s)
        → (cond t 1 (1 + need e (s ++ u)) ≡ cond t 1 (1 + need e s)) ⊎ ((cond t 1 (1 + need e s) ≡ suc (length s)) × (cond t 1 (1 + need e (s ++ u)) ≤ suc (length (s ++ u))))
    go true k = inl refl
    go false k = ⊎_elim (λ x. inl (ap (λ (i : ℕ). 1 + i) x)) (λ x. inr (omega (arith, x.0), omega (arith, x.1))) (f s u (omega arith))

-- ---- with zeros behind it

hex_zeros : (s : List ℕ) (k : ℕ) → hex_digits (s ++ zero_bytes k) ≡ hex_digits s
unfolding hex_digits is_hex_digit
hex_zeros [] zero = refl
hex_zeros [] (suc k) = zero-add (hex_digits (zero_bytes k)) ∙ hex_zeros [] k
hex_zeros (b ∷ s) k = omega (arith, hex_zeros s k)

hex_few : (s : List ℕ) → hex_digits s ≤ length s
unfolding hex_digits
hex_few [] = omega arith
hex_few (b ∷ s) = go (is_hex_digit b) (hex_few s)
  where
    go : (t : Bool) → hex_digits s ≤ length s → cond t 1 0 + hex_digits s ≤ suc (length s)
    go true h = omega arith
    go false h = omega arith

-- what p zeros or more settle is there; or it took all that there was, and does so without the zeros
abbrev KeepsZeros : (List ℕ → ℕ) → ℕ → Type 0
KeepsZeros f p =
    (s : List ℕ) (j k : ℕ) → p ≤ j → f (s ++ zero_bytes k) ≤ length s + k
    → (f (s ++ zero_bytes j) ≤ length s + k) ⊎ ((f (s ++ zero_bytes k) ≡ length s + k) × (f s ≡ length s) × (1 ≤ length s))

materialized_zeros : (n : ℕ) → KeepsZeros (need (Materialized n)) n
materialized_zeros n s j k p h = go (is_short_reference n (s ++ zero_bytes k)) refl
  where
    go : (t : Bool) → is_short_reference n (s ++ zero_bytes k) ≡ t
        → (need (Materialized n) (s ++ zero_bytes j) ≤ length s + k) ⊎ ((need (Materialized n) (s ++ zero_bytes k) ≡ length s + k) × (need (Materialized n) s ≡ length s) × (1 ≤ length s))
    go true e =
        let q = short_is n (s ++ zero_bytes k) e in
        let l = length_zeros s k in
        let d = hex_zeros s k in
        let few = hex_few s in
        let r = is_short_reference_lem n s q.0 (omega (arith, q.3, d, few)) (omega (arith, q.2, l)) (omega (arith, q.3, d)) in
        inr (whole_of n (s ++ zero_bytes k) true e ∙ l, whole_of n s true r, omega (arith, q.3, d, few))
    go false e =
        let w = whole_of n (s ++ zero_bytes k) false e in
        inl (omega (arith, h, w, materialized_there n (s ++ zero_bytes j) (omega (arith, p, length_zeros s j))))

-- where it stays, zeros that settle it change nothing
ending_zeros : (e : Extent) → is_unlisted e ≡ true → (s : List ℕ) (j k : ℕ) → settling e ≤ j → need e (s ++ zero_bytes k) ≤ length s + k → need e (s ++ zero_bytes j) ≤ length s + k
ending_zeros e t s j k p h =
    let i = k + settling e in
    let a = unlisted_stays e t (s ++ zero_bytes k) (zero_bytes (settling e)) (omega (arith, h, length_zeros s k)) in
    let b = ap (need e) (zeros_zeros s k (settling e)) in
    omega (arith, h, a, b, settled_alike e s j i p (omega arith))

zeros_keep : (e : Extent) → (is_locator e || is_short_header e) ≡ false → KeepsZeros (need e) (settling e)
zeros_keep (Fixed n) t s j k p h = inl (ending_zeros (Fixed n) refl s j k p h)
zeros_keep (Counted w) t s j k p h = inl (ending_zeros (Counted w) refl s j k p h)
zeros_keep (Header n) t s j k p h = inl (ending_zeros (Header n) (ap not t) s j k p h)
zeros_keep Inline t s j k p h = inl (ending_zeros Inline refl s j k p h)
zeros_keep Locator t s j k p h = absurd (true≢false t)
zeros_keep (Materialized n) t s j k p h = materialized_zeros n s j k p h

nullable_zeros : (e : Extent) (p : ℕ) → KeepsZeros (need e) p → KeepsZeros (nullable_need e) (1 + p)
unfolding nullable_need
nullable_zeros e p f [] zero k g h = absurd (omega arith)
nullable_zeros e p f [] (suc j) zero g h = absurd (omega arith)
nullable_zeros e p f [] (suc j) (suc k) g h = ⊎_elim (λ x. inl (omega (arith, x))) (λ x. absurd (omega (arith, x.2))) (f [] j k (omega (arith, g)) (omega (arith, h)))
nullable_zeros e p f (b ∷ s) j k g h = go (eqb b 255) h
  where
    go : (t : Bool) → cond t 1 (1 + need e (s ++ zero_bytes k)) ≤ suc (length s) + k
        → (cond t 1 (1 + need e (s ++ zero_bytes j)) ≤ suc (length s) + k)
        ⊎ ((cond t 1 (1 + need e (s ++ zero_bytes k)) ≡ suc (length s) + k) × (cond t 1 (1 + need e s) ≡ suc (length s)) × (1 ≤ suc (length s)))
    go true l = inl (omega arith)
    go false l = ⊎_elim (λ x. inl (omega (arith, x))) (λ x. inr (omega (arith, x.0), omega (arith, x.1), omega arith)) (f s j k (omega (arith, g)) (omega (arith, l)))

-- ---- a column

-- it is of a kind that keeps
keeping : (c : ColumnDescriptor) → keeps_acceptance c ≡ true → (is_locator (extent_of c) || is_short_header (extent_of c)) ≡ false
unfolding keeps_acceptance
keeping c own =
    let x = column_exceptions c in
    let lob = is_lob_of_length0 c.db2_type c in
    let tiny = is_tiny_header c.db2_type in
    sym (either x.1 x.2) ∙ not-true (lob || tiny) own
  where
    either : {a b y z : Bool} → a ≡ y → b ≡ z → (a || b) ≡ (y || z)
    either e f = cc

column_keeps : (c : ColumnDescriptor) → keeps_acceptance c ≡ true → Keeps (column_need c)
column_keeps c own = let h = keeps (extent_of c) (keeping c own) in by_indicator Keeps c (nullable_keeps (extent_of c) h) h

pub column_zeros : (c : ColumnDescriptor) → keeps_acceptance c ≡ true → (s : List ℕ) (k : ℕ) → column_need c (s ++ zero_bytes k) ≤ length s + k
    → (filled_need c s ≤ length s + k) ⊎ ((column_need c (s ++ zero_bytes k) ≡ length s + k) × (column_need c s ≡ length s) × (1 ≤ length s))
unfolding filled_need
column_zeros c own s k h =
    let e = extent_of c in
    let p = settling e in
    let z = zeros_keep e (keeping c own) in
    by_indicator (λ f. KeepsZeros f (1 + p)) c (nullable_zeros e p z) (λ r i j q. z r i j (omega (arith, q))) s (1 + p) k (omega arith) h

-- ---- the walk

pub walk_keeps : (start : ℕ) (cs : List ColumnDescriptor) → all_keep_acceptance cs ≡ true → (at at' : ℕ) (s u : List ℕ) → is_done (walk start cs at s) ≡ true
    → is_done (walk start cs at' (s ++ u)) ≡ true
unfolding walk all_keep_acceptance
walk_keeps start [] own at at' s u d = refl
walk_keeps start (c ∷ cs) own at at' s u d =
    step (walk_keeps start cs (and_parts (keeps_acceptance c) (all_keep_acceptance cs) own).1) (column_keeps c (and_parts (keeps_acceptance c) (all_keep_acceptance cs) own).0 s u h)
  where
    h : column_need c s ≤ length s
    h = walk_first start c cs at s d

    -- a step that takes n bytes
    takes : (n : ℕ) → column_need c (s ++ u) ≡ n → n ≤ length (s ++ u) → is_done (walk start cs (at' + n) (drop n (s ++ u))) ≡ true → is_done (walk start (c ∷ cs) at' (s ++ u)) ≡ true
    takes n e l f =
        ap is_done (walk_step start c cs at' (s ++ u) n e l) ∙ cons_done (cell_of c.nullable c at' (take n (s ++ u))) (walk start cs (at' + n) (drop n (s ++ u))) ∙ f

    step : ((i j : ℕ) (r v : List ℕ) → is_done (walk start cs i r) ≡ true → is_done (walk start cs j (r ++ v)) ≡ true)
        → (column_need c (s ++ u) ≡ column_need c s) ⊎ ((column_need c s ≡ length s) × (column_need c (s ++ u) ≤ length (s ++ u)))
        → is_done (walk start (c ∷ cs) at' (s ++ u)) ≡ true
    step ih (inl e) =
        let k = column_need c s in
        takes k e (omega (arith, h, length-append s u))
        (ap (λ (l : List ℕ). is_done (walk start cs (at' + k) l)) (drop-append-le k s u h) ∙ ih (at + k) (at' + k) (drop k s) u (walk_rest start c cs at s d))
    step ih (inr x) =
        let k = column_need c s in
        let n = column_need c (s ++ u) in
        let none : drop k s ≡ [] = ap (λ (i : ℕ). drop i s) x.0 ∙ drop-length s in
        takes n refl x.1
        (ih (at + k) (at' + n) [] (drop n (s ++ u)) (subst (λ (l : List ℕ). is_done (walk start cs (at + k) l) ≡ true) none (walk_rest start c cs at s d)))

-- columns that carry their own end are among these
carry_stay : (cs : List ColumnDescriptor) → all_carry_own_end cs ≡ true → all_keep_acceptance cs ≡ true
unfolding all_carry_own_end all_keep_acceptance carries_own_end keeps_acceptance
carry_stay [] own = refl
carry_stay (c ∷ cs) own =
    let long = is_long_materialized c.db2_type in
    let others = is_lob_of_length0 c.db2_type c || is_tiny_header c.db2_type in
    and_from _ _ (ap not (or_parts long others (not-true (long || others) (and_parts (carries_own_end c) (all_carry_own_end cs) own).0)).1) (carry_stay cs (and_parts (carries_own_end c) (all_carry_own_end cs) own).1)

pub stays_accepted_lem : StaysAccepted
stays_accepted_lem = record { among = carry_stay; stays = stays' }
  where
    stays' : (cs : List ColumnDescriptor) → all_keep_acceptance cs ≡ true → (s u : List ℕ) → 2 ≤ length s → (n : ℕ) → Accepts cs s n → (m : ℕ) × Accepts cs (s ++ u) m
    stays' cs own s u two n a =
        let k = skip_of s in
        let w = walk_row_at cs (s ++ u) k (skip_append s u two) ∙ ap (walk k cs k) (drop-append-le k s u (skip_fits s)) in
        let d = ap is_done w ∙ walk_keeps k cs own k k (drop k s) u (sym (ap is_done (walk_row_at cs s k refl)) ∙ ap is_done a.1) in
        (used_of (walk_row cs (s ++ u)), done_walk (walk_row cs (s ++ u)) (used_of (walk_row cs (s ++ u))) d refl)
