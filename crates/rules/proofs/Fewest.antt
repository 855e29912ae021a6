-- N14e (specs/Fewest.antt): no bytes behind s let a value that begins with s take fewer than `fewest_need`, one law for each kind of extent that ends itself; and some let it take
-- so many. Assumes nothing.
use Prim.Native.Nat.{ℕ, zero, suc, ◌+◌, ◌*◌, ◌-◌, ◌≤◌, ◌<◌}
use mathlib.Core.Path.{◌≡◌, refl, sym, ap, ◌∙◌, subst}
use mathlib.Core.Bool.{Bool, true, false, cond, true≢false, false≢true}
use mathlib.Core.List.{List, [], ◌∷◌, ◌++◌, append-nil, append_assoc}
use mathlib.Core.Logic.{◌⊎◌, inl, inr, ⊎_elim}
use native.Mathlib.Omega.{arith}
use native.Mathlib.Nat.{le_of_eq, zero-add, mul-zero, mul-le-mul_left}
use lib.ListN.{length, take, drop, length-append, length-drop, drop_of_length-le}
use lib.Seq.{drop-append-le, drop-append-add, drop_at}
use lib.Dec.{leb, eqb}
use borrow.Author.Tests.{leb-true, leb-false}
use Rattle.std.proofs.lemmas.Bool.{cases_lt, false_from_ne_true, and_parts}
use Rattle.refusal.specs.Refusal.{refused, input_limit}
use Rattle.unicode_standard.specs.Laws.{AreBytes}
use Rattle.unicode_standard.proofs.Bytes.{bytes_drop}
use Rattle.types.specs.declared.ColumnDescriptor.{ColumnDescriptor}
use Rattle.types.specs.declared.Columns.{Columns}
use Rattle.types.specs.Names.{low15}
use Rattle.types.specs.Places.{covered}
use Rattle.numbers.specs.Number.{base256, unsigned}
use Rattle.rules.specs.declared.Extent.{Extent}
use Rattle.rules.specs.declared.Extent.TheVariants.{Fixed, Counted, Header, Inline, Locator, Materialized}
use Rattle.rules.specs.Extent.{be16, be32, reference_mark, is_reference, says_header, lob_need, need, extent_of}
use Rattle.rules.specs.OwnEnd.{carries_own_end, all_carry_own_end}
use Rattle.rules.specs.Walk.{skip_of, nullable_need, cell_need, column_need, walk, walk_row}
use Rattle.rules.specs.Row.{RowTold}
use Rattle.rules.specs.Conversions.{row_answer}
use Rattle.rules.specs.Waiting.{TooShort, Accepts, zero_bytes, settling, lacking_by}
use Rattle.rules.specs.WaitingCall.{ReachesWalk, AcceptsIn}
use Rattle.rules.specs.Fewest.{shortest, fewest_need, fewest_cell, fewest_taken, fewest_for, Fewest, WaitingLimit}
use Rattle.rules.proofs.Extents.{is_unlisted, from_2, below_1024, column_unlisted, be32_of_02, is_reference_lem, reference_is, counted_short, counted_long, header_total, header_short, header_long, lob_short, lob_reference_lem, lob_plain, materialized_below}
use Rattle.rules.proofs.Walks.{is_done, used_of, cell_stays, walk_first, walk_rest, done_walk, short_walk}
use Rattle.rules.proofs.Rows.{skip_fits, walk_row_at}
use Rattle.rules.proofs.Zeros.{length_zeros, bytes_append, zeros_bytes, not_reference, settles}
use Rattle.rules.proofs.Waiting.{step_finished, Spends, spends_rest, with_bytes}
use Rattle.rules.proofs.WaitingCall.{too_short_lem, too_long, from_8', accepts_in, longer_reaches}

-- ---- no fewer

-- of bytes that begin alike the number is least with zeros
base_least : (m a b : ℕ) → a ≤ b → (s u : List ℕ) (j : ℕ) → m ≤ length s + j → m ≤ length (s ++ u) → base256 a (take m (s ++ zero_bytes j)) ≤ base256 b (take m (s ++ u))
base_least zero a b l s u j g h = l
base_least (suc m) a b l [] [] j g h = absurd (omega arith)
base_least (suc m) a b l [] (x ∷ u) zero g h = absurd (omega arith)
base_least (suc m) a b l [] (x ∷ u) (suc j) g h = base_least m (a * 256 + 0) (b * 256 + x) (omega arith) [] u j (omega arith) (omega arith)
base_least (suc m) a b l (c ∷ s) u j g h = base_least m (a * 256 + c) (b * 256 + c) (omega arith) s u j (omega arith) (omega arith)

be16_least : (s u : List ℕ) (j : ℕ) → 2 ≤ length s + j → 2 ≤ length (s ++ u) → be16 (s ++ zero_bytes j) ≤ be16 (s ++ u)
unfolding unsigned
be16_least s u j g h = base_least 2 0 0 (omega arith) s u j g h

be32_least : (s u : List ℕ) (j : ℕ) → 4 ≤ length s + j → 4 ≤ length (s ++ u) → be32 (s ++ zero_bytes j) ≤ be32 (s ++ u)
unfolding unsigned
be32_least s u j g h = base_least 4 0 0 (omega arith) s u j g h

abbrev AtLeast : (List ℕ → ℕ) → (List ℕ → ℕ) → Type 0
AtLeast f g = (s u : List ℕ) → AreBytes u → f (s ++ u) ≤ length (s ++ u) → g s ≤ f (s ++ u)

counted_least : (w : ℕ) (s u : List ℕ) → need (Counted w) (s ++ u) ≤ length (s ++ u) → need (Counted w) (s ++ zero_bytes 2) ≤ need (Counted w) (s ++ u)
counted_least w s u h = ⊎_elim (λ l. absurd (omega (arith, counted_short w (s ++ u) l))) go (cases_lt (length (s ++ u)) 2)
  where
    go : 2 ≤ length (s ++ u) → need (Counted w) (s ++ zero_bytes 2) ≤ need (Counted w) (s ++ u)
    go l =
        let m : w * be16 (s ++ zero_bytes 2) ≤ w * be16 (s ++ u) = mul-le-mul_left w (be16_least s u 2 (omega arith) l) in
        omega (arith, m, counted_long w (s ++ u) l, counted_long w (s ++ zero_bytes 2) (omega (arith, length_zeros s 2)))

-- of the two bytes of a header the first decides whether they say a length, and the second adds to it
header_one : (n x y : ℕ) → y < 256 → header_total n (x * 256) ≤ header_total n (x * 256 + y)
unfolding header_total
header_one n x y l = go (leb 0x8000 (x * 256)) refl (leb 0x8000 (x * 256 + y)) refl
  where
    go : (t : Bool) → leb 0x8000 (x * 256) ≡ t → (r : Bool) → leb 0x8000 (x * 256 + y) ≡ r → cond t (2 + low15 (x * 256)) n ≤ cond r (2 + low15 (x * 256 + y)) n
    go true e true f = omega (arith, l)
    go true e false f = absurd (omega (arith, leb-true 0x8000 (x * 256) e, leb-false 0x8000 (x * 256 + y) f))
    go false e true f = absurd (omega (arith, l, leb-false 0x8000 (x * 256) e, leb-true 0x8000 (x * 256 + y) f))
    go false e false f = omega arith

header_least : (n : ℕ) → 2 ≤ n → (x : ℕ) (s u : List ℕ) → AreBytes u → need (Header n) (x ∷ s ++ u) ≤ length (x ∷ s ++ u) → need (Header n) (x ∷ s ++ zero_bytes 2) ≤ need (Header n) (x ∷ s ++ u)
unfolding unsigned
header_least n two x [] [] b h = absurd (omega (arith, two, h, header_short n (x ∷ []) (omega arith)))
header_least n two x [] (y ∷ u) b h =
    let zero-behind : be16 (x ∷ zero_bytes 2) ≡ x * 256 = omega arith in
    let y-behind : be16 (x ∷ y ∷ u) ≡ x * 256 + y = omega arith in
    let l = header_long n (x ∷ zero_bytes 2) (omega arith) ∙ ap (header_total n) zero-behind in
    let r = header_long n (x ∷ y ∷ u) (omega arith) ∙ ap (header_total n) y-behind in
    omega (arith, l, r, header_one n x y (b 0))
header_least n two x (y ∷ s) u b h =
    le_of_eq (header_long n (x ∷ y ∷ s ++ zero_bytes 2) (omega arith) ∙ sym (header_long n (x ∷ y ∷ s ++ u) (omega arith)))

lob_low : (x : ℕ) (s : List ℕ) → 4 ≤ lob_need (4 + x) s
unfolding lob_need
lob_low x s = go (leb 4 (length s)) (is_reference s)
  where
    go : (t r : Bool) → 4 ≤ cond t (cond r 9 (4 + x)) 4
    go true true = omega arith
    go true false = omega arith
    go false r = omega arith

-- an inline LOB whose first byte is x
inline_least : (x : ℕ) (s u : List ℕ) → need Inline (x ∷ s ++ u) ≤ length (x ∷ s ++ u) → need Inline (x ∷ s ++ zero_bytes 9) ≤ need Inline (x ∷ s ++ u)
unfolding need
inline_least x s u h = ⊎_elim (λ l. absurd (omega (arith, h, lob_short (4 + be32 (x ∷ s ++ u)) (x ∷ s ++ u) l))) (λ four. go four (is_reference (x ∷ s ++ u)) refl) (cases_lt (length (x ∷ s ++ u)) 4)
  where
    long : 9 ≤ length (x ∷ s ++ zero_bytes 9)
    long = omega (arith, length_zeros s 9)

    go : 4 ≤ length (x ∷ s ++ u) → (t : Bool) → is_reference (x ∷ s ++ u) ≡ t → lob_need (4 + be32 (x ∷ s ++ zero_bytes 9)) (x ∷ s ++ zero_bytes 9) ≤ lob_need (4 + be32 (x ∷ s ++ u)) (x ∷ s ++ u)
    go four true e =
        let r = lob_reference_lem (4 + be32 (x ∷ s ++ zero_bytes 9)) (x ∷ s ++ zero_bytes 9) (is_reference_lem (x ∷ s ++ zero_bytes 9) long (reference_is (x ∷ s ++ u) e).1) in
        omega (arith, r, lob_reference_lem (4 + be32 (x ∷ s ++ u)) (x ∷ s ++ u) e)
    go four false e =
        let n = lob_plain (4 + be32 (x ∷ s ++ u)) (x ∷ s ++ u) four e in
        -- 02 counts so many bytes that nine are there
        let other : x ≡ reference_mark → ⊥ =
        λ z. let k = be32_of_02 (x ∷ s ++ u) four z in true≢false (sym (is_reference_lem (x ∷ s ++ u) (omega (arith, h, n, k)) z) ∙ e) in
        let r = lob_plain (4 + be32 (x ∷ s ++ zero_bytes 9)) (x ∷ s ++ zero_bytes 9) (omega (arith, long)) (not_reference (x ∷ s ++ zero_bytes 9) other) in
        omega (arith, n, r, be32_least (x ∷ s) u 9 (omega arith) four)

fixed_is : (n : ℕ) (s : List ℕ) → need (Fixed n) s ≡ n
unfolding need
fixed_is n s = refl

-- a value of which nothing is there
none_least : (e : Extent) → is_unlisted e ≡ true → (u : List ℕ) → need e u ≤ length u → shortest e ≤ need e u
unfolding need
none_least (Fixed n) t u h = omega arith
none_least (Counted w) t u h = go (leb 2 (length u))
  where
    go : (t : Bool) → 2 ≤ cond t (2 + w * be16 u) 2
    go true = omega arith
    go false = omega arith
none_least (Header n) t u h = go (says_header u)
  where
    go : (t : Bool) → 2 ≤ cond t (2 + low15 (be16 u)) n
    go true = omega arith
    go false = from_2 n t
none_least Inline t u h = lob_low (be32 u) u
none_least Locator t u h = absurd (false≢true t)
none_least (Materialized n) t u h = le_of_eq (sym (materialized_below n u (below_1024 n t)))

-- and one that begins with x
some_least : (e : Extent) → is_unlisted e ≡ true → (x : ℕ) (s u : List ℕ) → AreBytes u → need e (x ∷ s ++ u) ≤ length (x ∷ s ++ u)
    → need e (x ∷ s ++ zero_bytes (settling e)) ≤ need e (x ∷ s ++ u)
some_least (Fixed n) t x s u b h = le_of_eq (fixed_is n (x ∷ s ++ zero_bytes 0) ∙ sym (fixed_is n (x ∷ s ++ u)))
some_least (Counted w) t x s u b h = counted_least w (x ∷ s) u h
some_least (Header n) t x s u b h = header_least n (from_2 n t) x s u b h
some_least Inline t x s u b h = inline_least x s u h
some_least Locator t x s u b h = absurd (false≢true t)
some_least (Materialized n) t x s u b h =
    let l = below_1024 n t in le_of_eq (materialized_below n (x ∷ s ++ zero_bytes n) l ∙ sym (materialized_below n (x ∷ s ++ u) l))

least : (e : Extent) → is_unlisted e ≡ true → AtLeast (need e) (fewest_need e)
unfolding fewest_need
least e t [] u b h = none_least e t u h
least e t (x ∷ s) u b h = some_least e t x s u b h

nullable_least : (e : Extent) → AtLeast (need e) (fewest_need e) → AtLeast (nullable_need e) (fewest_cell true e)
unfolding nullable_need
nullable_least e f [] [] b h = absurd (omega arith)
nullable_least e f [] (x ∷ u) b h = go (eqb x 255)
  where
    go : (t : Bool) → 1 ≤ cond t 1 (1 + need e u)
    go true = omega arith
    go false = omega arith
nullable_least e f (x ∷ s) u b h = go (eqb x 255) h
  where
    go : (t : Bool) → cond t 1 (1 + need e (s ++ u)) ≤ suc (length (s ++ u)) → cond t 1 (1 + fewest_need e s) ≤ cond t 1 (1 + need e (s ++ u))
    go true k = omega arith
    go false k = omega (arith, f s u b (omega (arith, k)))

-- ---- where so many are there, they are what is taken

abbrev There : (List ℕ → ℕ) → (List ℕ → ℕ) → Type 0
There f g = (s : List ℕ) → g s ≤ length s → f s ≡ g s

none_there : (e : Extent) → is_unlisted e ≡ true → shortest e ≤ 0 → need e [] ≡ shortest e
none_there (Fixed n) t h = fixed_is n []
none_there (Counted w) t h = absurd (omega arith)
none_there (Header n) t h = absurd (omega arith)
none_there Inline t h = absurd (omega arith)
none_there Locator t h = absurd (omega arith)
none_there (Materialized n) t h = materialized_below n [] (below_1024 n t)

-- by the law of zeros, where some are there
there : (e : Extent) → is_unlisted e ≡ true → There (need e) (fewest_need e)
unfolding fewest_need
there e t [] h = none_there e t h
there e t (b ∷ s) h = ap (need e) (sym (append-nil (b ∷ s))) ∙ settles e (b ∷ s) (settling e) 0 (omega arith) (omega (arith, h))

nullable_there : (e : Extent) → There (need e) (fewest_need e) → There (nullable_need e) (fewest_cell true e)
unfolding nullable_need
nullable_there e f [] h = absurd (omega arith)
nullable_there e f (b ∷ s) h = go (eqb b 255) h
  where
    go : (t : Bool) → cond t 1 (1 + fewest_need e s) ≤ suc (length s) → cond t 1 (1 + need e s) ≡ cond t 1 (1 + fewest_need e s)
    go true k = refl
    go false k = ap (λ (x : ℕ). 1 + x) (f s (omega (arith, k)))

-- ---- and where they are not, there are bytes that make it so many

abbrev Filled : (List ℕ → ℕ) → (List ℕ → ℕ) → Type 0
Filled f g = (s : List ℕ) → length s < g s → (v : List ℕ) × AreBytes v × (length (s ++ v) ≡ g s) × (f (s ++ v) ≡ g s)

none_fills : (e : Extent) → is_unlisted e ≡ true → (v : List ℕ) × AreBytes v × (length v ≡ shortest e) × (need e v ≡ shortest e)
unfolding need says_header lob_need is_reference unsigned
none_fills (Fixed n) t = (zero_bytes n, zeros_bytes n, length_zeros [] n ∙ zero-add n, refl)
none_fills (Counted w) t = (zero_bytes 2, zeros_bytes 2, refl, ap (λ (x : ℕ). 2 + x) (mul-zero w))
none_fills (Header n) t = (0x80 ∷ 0 ∷ [], bytes, refl, refl)
  where
    bytes : AreBytes (0x80 ∷ 0 ∷ [])
    bytes zero = omega arith
    bytes (suc zero) = omega arith
    bytes (suc (suc i)) = omega arith
none_fills Inline t = (zero_bytes 4, zeros_bytes 4, refl, refl)
none_fills Locator t = absurd (false≢true t)
none_fills (Materialized n) t = (zero_bytes n, zeros_bytes n, length_zeros [] n ∙ zero-add n, materialized_below n (zero_bytes n) (below_1024 n t))

fills : (e : Extent) → is_unlisted e ≡ true → Filled (need e) (fewest_need e)
unfolding fewest_need
fills e t [] h = none_fills e t
fills e t (b ∷ s) h =
    let p = settling e in
    let k = need e (b ∷ s ++ zero_bytes p) - length (b ∷ s) in
    (zero_bytes k, zeros_bytes k, omega (arith, h, length_zeros (b ∷ s) k), settles e (b ∷ s) p k (omega arith) (omega (arith, h)))

nullable_fills : (e : Extent) → Filled (need e) (fewest_need e) → Filled (nullable_need e) (fewest_cell true e)
unfolding nullable_need
nullable_fills e f [] h = (0xFF ∷ [], bytes, refl, refl)
  where
    bytes : AreBytes (0xFF ∷ [])
    bytes zero = omega arith
    bytes (suc i) = omega arith
nullable_fills e f (b ∷ s) h = go (eqb b 255) h
  where
    go : (t : Bool) → suc (length s) < cond t 1 (1 + fewest_need e s)
        → (v : List ℕ) × AreBytes v × (suc (length (s ++ v)) ≡ cond t 1 (1 + fewest_need e s)) × (cond t 1 (1 + need e (s ++ v)) ≡ cond t 1 (1 + fewest_need e s))
    go true k = absurd (omega arith)
    go false k = let r = f s (omega (arith, k)) in (r.0, r.1, omega (arith, r.2), omega (arith, r.3))

-- ---- a column

module _ (c : ColumnDescriptor) (own : carries_own_end c ≡ true) where
  ends : is_unlisted (extent_of c) ≡ true
  ends = sym (column_unlisted c) ∙ own

  -- as by_indicator, of what is taken beside the fewest
  by_both : (P : (List ℕ → ℕ) → (List ℕ → ℕ) → Type 0) → P (nullable_need (extent_of c)) (fewest_cell true (extent_of c)) → P (need (extent_of c)) (fewest_need (extent_of c))
      → P (column_need c) (fewest_taken c)
  unfolding column_need fewest_taken
  by_both P nulls plain = go c.nullable
    where
      go : (t : Bool) → P (λ s. cell_need t (extent_of c) s) (λ s. fewest_cell t (extent_of c) s)
      go true = nulls
      go false = plain

  column_least : AtLeast (column_need c) (fewest_taken c)
  column_least = let h = least (extent_of c) ends in by_both AtLeast (nullable_least (extent_of c) h) h

  column_there : There (column_need c) (fewest_taken c)
  column_there = let h = there (extent_of c) ends in by_both There (nullable_there (extent_of c) h) h

  column_fills : Filled (column_need c) (fewest_taken c)
  column_fills = let h = fills (extent_of c) ends in by_both Filled (nullable_fills (extent_of c) h) h

-- ---- the walk

-- where it is done with bytes behind s, these are no fewer than it lacked
walk_least : (start : ℕ) (cs : List ColumnDescriptor) → all_carry_own_end cs ≡ true → (at : ℕ) (s u : List ℕ) → AreBytes u → is_done (walk start cs at (s ++ u)) ≡ true
    → lacking_by fewest_taken cs s ≤ length u
unfolding lacking_by all_carry_own_end
walk_least start [] own at s u b d = omega arith
walk_least start (c ∷ cs) own at s u b d = go (walk_least start cs (and_parts (carries_own_end c) (all_carry_own_end cs) own).1) (cases_lt (length s) (fewest_taken c s))
  where
    here : carries_own_end c ≡ true
    here = (and_parts (carries_own_end c) (all_carry_own_end cs) own).0

    fits : column_need c (s ++ u) ≤ length (s ++ u)
    fits = walk_first start c cs at (s ++ u) d

    go : ((at : ℕ) (s u : List ℕ) → AreBytes u → is_done (walk start cs at (s ++ u)) ≡ true → lacking_by fewest_taken cs s ≤ length u)
        → (length s < fewest_taken c s) ⊎ (fewest_taken c s ≤ length s) → (fewest_taken c s - length s) + lacking_by fewest_taken cs (drop (fewest_taken c s) s) ≤ length u
    go ih (inr l) =
        let t = fewest_taken c s in
        let e = column_there c here s l in
        let e' = cell_stays c here s u (omega (arith, e, l)) ∙ e in
        let r : is_done (walk start cs (at + t) (drop t s ++ u)) ≡ true =
        subst (λ (x : List ℕ). is_done (walk start cs (at + t) x) ≡ true) (drop-append-le t s u l)
        (subst (λ (i : ℕ). is_done (walk start cs (at + i) (drop i (s ++ u))) ≡ true) e' (walk_rest start c cs at (s ++ u) d)) in
        omega (arith, l, ih (at + t) (drop t s) u b r)
    go ih (inl l) =
        let t = fewest_taken c s in
        let k = column_need c (s ++ u) - length s in
        let low = column_least c here s u b fits in
        let whole : column_need c (s ++ u) ≡ length s + k = omega (arith, low, l) in
        let r : is_done (walk start cs (at + column_need c (s ++ u)) (drop k u)) ≡ true =
        subst (λ (x : List ℕ). is_done (walk start cs (at + column_need c (s ++ u)) x) ≡ true) (ap (λ (i : ℕ). drop i (s ++ u)) whole ∙ drop-append-add s u k) (walk_rest start c cs at (s ++ u) d) in
        let past : length s ≤ t = omega (arith, l) in
        let none : drop t s ≡ [] = drop_of_length-le s past in
        let n : lacking_by fewest_taken cs (drop t s) ≤ length (drop k u) = rw none (ih (at + column_need c (s ++ u)) [] (drop k u) (bytes_drop k u b) r) in
        omega (arith, l, low, fits, length-append s u, n, length-drop k u)

-- and where it is not done, or has no bytes, there are so many with which it is done and uses all
walk_fewest : (start : ℕ) (cs : List ColumnDescriptor) → all_carry_own_end cs ≡ true → (at : ℕ) (s : List ℕ) → Spends start cs at s
    → (u : List ℕ) × AreBytes u × (length u ≡ lacking_by fewest_taken cs s) × (is_done (walk start cs at (s ++ u)) ≡ true) × (used_of (walk start cs at (s ++ u)) ≡ at + length (s ++ u))
unfolding walk lacking_by all_carry_own_end
walk_fewest start [] own at s h = ([], (λ i. omega arith), refl, refl, ⊎_elim (λ d. absurd (true≢false d)) (λ l. omega (arith, l, length-append s [])) h)
walk_fewest start (c ∷ cs) own at s h = go (walk_fewest start cs (and_parts (carries_own_end c) (all_carry_own_end cs) own).1) (cases_lt (length s) (fewest_taken c s))
  where
    here : carries_own_end c ≡ true
    here = (and_parts (carries_own_end c) (all_carry_own_end cs) own).0

    go : ((at : ℕ) (s : List ℕ) → Spends start cs at s
        → (u : List ℕ) × AreBytes u × (length u ≡ lacking_by fewest_taken cs s) × (is_done (walk start cs at (s ++ u)) ≡ true) × (used_of (walk start cs at (s ++ u)) ≡ at + length (s ++ u)))
        → (length s < fewest_taken c s) ⊎ (fewest_taken c s ≤ length s)
        → (u : List ℕ) × AreBytes u × (length u ≡ (fewest_taken c s - length s) + lacking_by fewest_taken cs (drop (fewest_taken c s) s)) × (is_done (walk start (c ∷ cs) at (s ++ u)) ≡ true)
        × (used_of (walk start (c ∷ cs) at (s ++ u)) ≡ at + length (s ++ u))
    go ih (inr l) =
        let t = fewest_taken c s in
        let e = column_there c here s l in
        let r = ih (at + t) (drop t s) (spends_rest start c cs at s t e l h) in
        let u = r.0 in
        let same = drop-append-le t s u l in
        let f = step_finished start c cs at (s ++ u) t (at + length (s ++ u)) (cell_stays c here s u (omega (arith, e, l)) ∙ e) (omega (arith, l, length-append s u))
        (ap (λ (x : List ℕ). is_done (walk start cs (at + t) x)) same ∙ r.3)
        (ap (λ (x : List ℕ). used_of (walk start cs (at + t) x)) same ∙ r.4 ∙ omega (arith, l, length-append s u, length-append (drop t s) u, length-drop t s)) in
        (u, r.1, omega (arith, l, r.2), f.0, f.1)
    go ih (inl l) =
        let t = fewest_taken c s in
        let v = column_fills c here s l in
        let r = ih (at + t) [] (inr refl) in
        let u = v.0 ++ r.0 in
        let parts : s ++ u ≡ (s ++ v.0) ++ r.0 = sym (append_assoc s v.0 r.0) in
        let e = cell_stays c here (s ++ v.0) r.0 (omega (arith, v.2, v.3)) ∙ v.3 in
        let rest = drop_at (s ++ v.0) r.0 t v.2 in
        let f = step_finished start c cs at ((s ++ v.0) ++ r.0) t (at + t + length r.0) e (omega (arith, v.2, length-append (s ++ v.0) r.0))
        (ap (λ (x : List ℕ). is_done (walk start cs (at + t) x)) rest ∙ r.3)
        (ap (λ (x : List ℕ). used_of (walk start cs (at + t) x)) rest ∙ r.4) in
        let past : length s ≤ t = omega (arith, l) in
        let none : drop t s ≡ [] = drop_of_length-le s past in
        let n : length r.0 ≡ lacking_by fewest_taken cs (drop t s) = rw none r.2 in (
          u,
          bytes_append v.0 r.0 v.1 r.1,
          omega (arith, n, length-append v.0 r.0, v.2, length-append s v.0),
          ap (λ (x : List ℕ). is_done (walk start (c ∷ cs) at x)) parts ∙ f.0,
          ap (λ (x : List ℕ). used_of (walk start (c ∷ cs) at x)) parts ∙ f.1 ∙ omega (arith, v.2, ap length parts, length-append (s ++ v.0) r.0),
        )

-- ---- the row, and the row call

module _ (cs : List ColumnDescriptor) (own : all_carry_own_end cs ≡ true) (s : List ℕ) (two : 2 ≤ length s) where
  attained' : TooShort cs s → (u : List ℕ) × AreBytes u × (length u ≡ fewest_for cs s) × Accepts cs (s ++ u) (length (s ++ u))
  attained' h =
      let k = skip_of s in
      let r = walk_fewest k cs own k (drop k s) (inl (sym (ap is_done (walk_row_at cs s k refl)) ∙ ap is_done h.2)) in
      let u = r.0 in
      let w = with_bytes cs s two u in
      let all : used_of (walk_row cs (s ++ u)) ≡ length (s ++ u) =
      ap used_of w ∙ r.4 ∙ omega (arith, length-append s u, length-append (drop k s) u, length-drop k s, skip_fits s) in
      (u, r.1, r.2, done_walk (walk_row cs (s ++ u)) (length (s ++ u)) (ap is_done w ∙ r.3) all)

  fewest' : (u : List ℕ) → AreBytes u → is_done (walk_row cs (s ++ u)) ≡ true → fewest_for cs s ≤ length u
  fewest' u b d = let k = skip_of s in walk_least k cs own k (drop k s) u b (sym (ap is_done (with_bytes cs s two u)) ∙ d)

pub fewest_bytes : Fewest
fewest_bytes = record { attained = λ cs own s two h. attained' cs own s two h; fewest = λ cs own s u two b n a. fewest' cs own s two u b (ap is_done a.1) }

module _ (release : ℕ) (columns : Columns) (own : all_carry_own_end (covered columns) ≡ true) (s d vs : List ℕ) (two : 2 ≤ length s) (o : (row_answer release columns s d).outcome ≡ refused 8 vs) where
  abbrev cs : List ColumnDescriptor
  cs = covered columns

  possible' : length s + fewest_for cs s ≤ input_limit → (u : List ℕ) × AreBytes u × (length u ≡ fewest_for cs s) × AcceptsIn release columns (s ++ u) (length (s ++ u))
  possible' l =
      let h = from_8' release columns s d vs o in
      let r = attained' cs own s two (h.1, h.2, h.3) in
      let u = r.0 in
      (u, r.1, r.2, accepts_in release columns (s ++ u) (length (s ++ u)) (longer_reaches release columns s u h.0 (omega (arith, l, r.2, length-append s u))) r.3)

  impossible' : input_limit < length s + fewest_for cs s → (u e : List ℕ) → AreBytes u
      → ((row_answer release columns (s ++ u) e).outcome ≡ refused 4 []) ⊎ ((us : List ℕ) × ((row_answer release columns (s ++ u) e).outcome ≡ refused 8 us))
  impossible' l u e b = ⊎_elim long fits (cases_lt input_limit (length (s ++ u)))
    where
      h : ReachesWalk release columns s
      h = (from_8' release columns s d vs o).0

      long : input_limit < length (s ++ u) → ((row_answer release columns (s ++ u) e).outcome ≡ refused 4 []) ⊎ ((us : List ℕ) × ((row_answer release columns (s ++ u) e).outcome ≡ refused 8 us))
      long k = inl (ap (λ (x : RowTold). x.outcome) (too_long release columns (s ++ u) e h.known h.few k))

      fits : length (s ++ u) ≤ input_limit → ((row_answer release columns (s ++ u) e).outcome ≡ refused 4 []) ⊎ ((us : List ℕ) × ((row_answer release columns (s ++ u) e).outcome ≡ refused 8 us))
      fits k =
          let not_done = false_from_ne_true (is_done (walk_row cs (s ++ u))) (λ f. omega (arith, l, k, fewest' cs own s two u b f, length-append s u)) in
          let w = short_walk (walk_row cs (s ++ u)) not_done in
          inr (w.0 ∷ w.1 ∷ [], ap (λ (x : RowTold). x.outcome) (too_short_lem release columns (s ++ u) e (longer_reaches release columns s u h k) w.0 w.1 w.2))

pub waiting_limit : (release : ℕ) → WaitingLimit release
waiting_limit release = record { possible = possible' release; impossible = impossible' release }
