-- The laws of `need` with zeros behind the bytes (N14c), one for each kind of extent.
--     Settles    so many zeros settle how many bytes are taken: any number of them gives the same, once what is taken is there
--     most       what is taken of bytes at most
-- Assumes nothing.
use Prim.Native.Nat.{ℕ, zero, suc, ◌+◌, ◌*◌, ◌-◌, ◌%◌, ◌≤◌, ◌<◌, max}
use mathlib.Core.Path.{◌≡◌, refl, sym, ap, ◌∙◌}
use mathlib.Core.Bool.{Bool, true, false, cond}
use mathlib.Core.List.{List, [], ◌∷◌, ◌++◌, append_assoc}
use mathlib.Core.Logic.{⊎_elim}
use native.Mathlib.Omega.{arith}
use native.Mathlib.Nat.{zero-add, suc-add, suc-sub-suc, mul-le-mul_left, mod-lt, le-max_left, le-max_right}
use lib.ListN.{length, get_or, take, drop, length-append, length-replicate, replicate-append-replicate}
use lib.Dec.{leb, eqb}
use borrow.Author.Tests.{eqb-true, eqb-false}
use Rattle.std.proofs.lemmas.Bool.{cases_lt, false_from_ne_true}
use Rattle.unicode_standard.specs.Laws.{AreBytes}
use Rattle.types.specs.declared.ByteOrder.TheVariants.{BigEndian}
use Rattle.types.specs.declared.ColumnDescriptor.{ColumnDescriptor}
use Rattle.types.specs.Names.{low15}
use Rattle.numbers.specs.Number.{unsigned}
use Rattle.rules.specs.declared.Extent.{Extent}
use Rattle.rules.specs.declared.Extent.TheVariants.{Fixed, Counted, Header, Inline, Locator, Materialized}
use Rattle.rules.specs.Extent.{be16, be32, reference_mark, is_reference, is_short_reference, says_header, lob_need, need, extent_of}
use Rattle.rules.specs.Walk.{nullable_need, cell_need, column_need}
use Rattle.rules.specs.Waiting.{zero_bytes, settling, filled_need, most_taken}
use Rattle.rules.proofs.Walks.{by_indicator}
use Rattle.rules.proofs.Extents.{reference_is, is_reference_lem, counted_long, header_total, header_short, header_long, header_total_below, lob_reference_lem, lob_plain, short_is, materialized_there}

-- ---- bytes with zeros behind them

pub length_zeros : (s : List ℕ) (k : ℕ) → length (s ++ zero_bytes k) ≡ length s + k
length_zeros s k = length-append s (zero_bytes k) ∙ ap (λ (i : ℕ). length s + i) (length-replicate k 0)

pub zeros_zeros : (s : List ℕ) (j k : ℕ) → (s ++ zero_bytes j) ++ zero_bytes k ≡ s ++ zero_bytes (j + k)
zeros_zeros s j k = append_assoc s (zero_bytes j) (zero_bytes k) ∙ ap (λ (l : List ℕ). s ++ l) (replicate-append-replicate j k 0)

pub bytes_append : (s u : List ℕ) → AreBytes s → AreBytes u → AreBytes (s ++ u)
bytes_append [] u g h i = h i
bytes_append (b ∷ s) u g h zero = g 0
bytes_append (b ∷ s) u g h (suc i) = bytes_append s u (λ j. g (suc j)) h i

pub zeros_bytes : (k : ℕ) → AreBytes (zero_bytes k)
zeros_bytes zero i = omega arith
zeros_bytes (suc k) zero = omega arith
zeros_bytes (suc k) (suc i) = zeros_bytes k i

first_zeros : (s : List ℕ) (k : ℕ) → get_or (s ++ zero_bytes k) 0 0 ≡ get_or s 0 0
first_zeros [] zero = refl
first_zeros [] (suc k) = refl
first_zeros (b ∷ s) k = refl

take_zeros : (m : ℕ) (s : List ℕ) (j k : ℕ) → m ≤ length s + j → m ≤ length s + k → take m (s ++ zero_bytes j) ≡ take m (s ++ zero_bytes k)
take_zeros zero s j k g h = refl
take_zeros (suc m) [] zero k g h = absurd (omega arith)
take_zeros (suc m) [] (suc j) zero g h = absurd (omega arith)
take_zeros (suc m) [] (suc j) (suc k) g h = ap (λ (l : List ℕ). 0 ∷ l) (take_zeros m [] j k (omega arith) (omega arith))
take_zeros (suc m) (b ∷ s) j k g h = ap (λ (l : List ℕ). b ∷ l) (take_zeros m s j k (omega arith) (omega arith))

drop_of_zeros : (t m : ℕ) → drop t (zero_bytes (t + m)) ≡ zero_bytes m
drop_of_zeros zero m = ap zero_bytes (zero-add m)
drop_of_zeros (suc t) m = ap (λ (i : ℕ). drop (suc t) (zero_bytes i)) (suc-add t m) ∙ drop_of_zeros t m

-- what is left behind t bytes, where zeros were added as far as t, and m more
pub drop_zeros : (t : ℕ) (s : List ℕ) (m : ℕ) → drop t (s ++ zero_bytes ((t - length s) + m)) ≡ drop t s ++ zero_bytes m
drop_zeros zero s m = let e : (0 - length s) + m ≡ m = omega arith in ap (λ (i : ℕ). s ++ zero_bytes i) e
drop_zeros (suc t) [] m = let e : (suc t - 0) + m ≡ suc t + m = omega arith in ap (λ (i : ℕ). drop (suc t) (zero_bytes i)) e ∙ drop_of_zeros (suc t) m
drop_zeros (suc t) (b ∷ s) m = ap (λ (i : ℕ). drop t (s ++ zero_bytes (i + m))) (suc-sub-suc t (length s)) ∙ drop_zeros t s m

-- ---- so many zeros settle it

abbrev Settles : (List ℕ → ℕ) → ℕ → Type 0
Settles f p = (s : List ℕ) (j k : ℕ) → p ≤ j → f (s ++ zero_bytes j) ≤ length s + k → f (s ++ zero_bytes k) ≡ f (s ++ zero_bytes j)

be16_zeros : (s : List ℕ) (j k : ℕ) → 2 ≤ length s + j → 2 ≤ length s + k → be16 (s ++ zero_bytes j) ≡ be16 (s ++ zero_bytes k)
be16_zeros s j k g h = ap (unsigned BigEndian) (take_zeros 2 s j k g h)

-- what two bytes say, where they are there
two_settle : (f : List ℕ → ℕ) (g : ℕ → ℕ) → ((s : List ℕ) → 2 ≤ length s → f s ≡ g (be16 s))
    → (s : List ℕ) (j k : ℕ) → 2 ≤ j → 2 ≤ length s + k → f (s ++ zero_bytes k) ≡ f (s ++ zero_bytes j)
two_settle f g long s j k p two =
    long (s ++ zero_bytes k) (omega (arith, length_zeros s k))
    ∙ ap g (be16_zeros s k j two (omega arith))
    ∙ sym (long (s ++ zero_bytes j) (omega (arith, length_zeros s j)))

counted_settles : (w : ℕ) → Settles (need (Counted w)) 2
counted_settles w s j k p h =
    two_settle (need (Counted w)) (λ x. 2 + w * x) (counted_long w) s j k p
    (omega (arith, counted_long w (s ++ zero_bytes j) (omega (arith, length_zeros s j))))

header_settles : (n : ℕ) → Settles (need (Header n)) 2
header_settles n s j k p h = ⊎_elim few (two_settle (need (Header n)) (header_total n) (header_long n) s j k p) (cases_lt (length s + k) 2)
  where
    few : length s + k < 2 → need (Header n) (s ++ zero_bytes k) ≡ need (Header n) (s ++ zero_bytes j)
    few l =
        let e = header_long n (s ++ zero_bytes j) (omega (arith, length_zeros s j)) in
        header_short n (s ++ zero_bytes k) (omega (arith, length_zeros s k)) ∙ sym (header_total_below n (be16 (s ++ zero_bytes j)) (omega arith)) ∙ sym e

pub not_reference : (s : List ℕ) → (get_or s 0 0 ≡ reference_mark → ⊥) → is_reference s ≡ false
not_reference s n = false_from_ne_true (is_reference s) (λ e. n (reference_is s e).1)

-- both kinds of LOB: q is the whole where no reference begins, and goes by the first four bytes
lob_settles : (q : List ℕ → ℕ) → ((s : List ℕ) → 4 ≤ q s) → ((s t : List ℕ) → take 4 s ≡ take 4 t → q s ≡ q t) → Settles (λ s. lob_need (q s) s) 9
lob_settles q low same s j k p h = go (eqb (get_or s 0 0) reference_mark) refl
  where
    long_j : 9 ≤ length (s ++ zero_bytes j)
    long_j = omega (arith, length_zeros s j)

    go : (t : Bool) → eqb (get_or s 0 0) reference_mark ≡ t → lob_need (q (s ++ zero_bytes k)) (s ++ zero_bytes k) ≡ lob_need (q (s ++ zero_bytes j)) (s ++ zero_bytes j)
    go true e =
        let z = eqb-true (get_or s 0 0) reference_mark e in
        let r = lob_reference_lem (q (s ++ zero_bytes j)) (s ++ zero_bytes j) (is_reference_lem (s ++ zero_bytes j) long_j (first_zeros s j ∙ z)) in
        lob_reference_lem (q (s ++ zero_bytes k)) (s ++ zero_bytes k) (is_reference_lem (s ++ zero_bytes k) (omega (arith, length_zeros s k)) (first_zeros s k ∙ z)) ∙ sym r
    go false e =
        let z = eqb-false (get_or s 0 0) reference_mark e in
        let none : (i : ℕ) → is_reference (s ++ zero_bytes i) ≡ false = λ i. not_reference (s ++ zero_bytes i) (λ y. z (sym (first_zeros s i) ∙ y)) in
        let r = lob_plain (q (s ++ zero_bytes j)) (s ++ zero_bytes j) (omega (arith, long_j)) (none j) in
        let four : 4 ≤ length s + k = omega (arith, low (s ++ zero_bytes j)) in
        lob_plain (q (s ++ zero_bytes k)) (s ++ zero_bytes k) (omega (arith, length_zeros s k)) (none k)
        ∙ same (s ++ zero_bytes k) (s ++ zero_bytes j) (take_zeros 4 s k j four (omega arith))
        ∙ sym r

inline_settles : Settles (need Inline) 9
unfolding need
inline_settles = lob_settles (λ s. 4 + be32 s) (λ s. omega arith) (λ s t e. ap (λ (l : List ℕ). 4 + unsigned BigEndian l) e)

locator_settles : Settles (need Locator) 9
unfolding need
locator_settles = lob_settles (λ s. 4) (λ s. omega arith) (λ s t e. refl)

materialized_settles : (n : ℕ) → Settles (need (Materialized n)) n
materialized_settles n s j k p h =
    let e = materialized_there n (s ++ zero_bytes j) (omega (arith, length_zeros s j)) in
    materialized_there n (s ++ zero_bytes k) (omega (arith, length_zeros s k)) ∙ sym e

fixed_settles : (n : ℕ) → Settles (need (Fixed n)) 0
unfolding need
fixed_settles n s j k p h = refl

pub settles : (e : Extent) → Settles (need e) (settling e)
settles (Fixed n) = fixed_settles n
settles (Counted w) = counted_settles w
settles (Header n) = header_settles n
settles Inline = inline_settles
settles Locator = locator_settles
settles (Materialized n) = materialized_settles n

-- so any two numbers of zeros that settle it give the same
pub settled_alike : (e : Extent) (s : List ℕ) (i j : ℕ) → settling e ≤ i → settling e ≤ j → need e (s ++ zero_bytes i) ≡ need e (s ++ zero_bytes j)
settled_alike e s i j p q =
    let k = need e (s ++ zero_bytes i) + need e (s ++ zero_bytes j) in
    sym (settles e s i k p (omega arith)) ∙ settles e s j k q (omega arith)

nullable_settles : (e : Extent) (p : ℕ) → Settles (need e) p → Settles (nullable_need e) (1 + p)
unfolding nullable_need
nullable_settles e p f [] zero k g h = absurd (omega arith)
nullable_settles e p f [] (suc j) zero g h = absurd (omega arith)
nullable_settles e p f [] (suc j) (suc k) g h = ap (λ (x : ℕ). 1 + x) (f [] j k (omega arith) (omega arith))
nullable_settles e p f (b ∷ s) j k g h = go (eqb b 255) h
  where
    go : (t : Bool) → cond t 1 (1 + need e (s ++ zero_bytes j)) ≤ suc (length s) + k → cond t 1 (1 + need e (s ++ zero_bytes k)) ≡ cond t 1 (1 + need e (s ++ zero_bytes j))
    go true l = refl
    go false l = ap (λ (x : ℕ). 1 + x) (f s j k (omega arith) (omega arith))

pub column_settles : (c : ColumnDescriptor) (s : List ℕ) (k : ℕ) → filled_need c s ≤ length s + k → column_need c (s ++ zero_bytes k) ≡ filled_need c s
unfolding filled_need
column_settles c s k h =
    let e = extent_of c in
    let p = settling e in
    by_indicator (λ f. Settles f (1 + p)) c (nullable_settles e p (settles e)) (λ r i j q. settles e r i j (omega (arith, q))) s (1 + p) k (omega arith) h

-- ---- what is taken of bytes at most

be16_most : (s : List ℕ) → AreBytes s → be16 s ≤ 0xFFFF
unfolding unsigned
be16_most [] h = omega arith
be16_most (a ∷ []) h = omega (arith, h 0)
be16_most (a ∷ b ∷ s) h = omega (arith, h 0, h 1)

be32_most : (s : List ℕ) → AreBytes s → be32 s ≤ 0xFFFFFFFF
unfolding unsigned
be32_most [] h = omega arith
be32_most (a ∷ []) h = omega (arith, h 0)
be32_most (a ∷ b ∷ []) h = omega (arith, h 0, h 1)
be32_most (a ∷ b ∷ c ∷ []) h = omega (arith, h 0, h 1, h 2)
be32_most (a ∷ b ∷ c ∷ d ∷ s) h = omega (arith, h 0, h 1, h 2, h 3)

need_most : (e : Extent) (s : List ℕ) → AreBytes s → need e s ≤ most_taken e
unfolding need lob_need is_short_reference
need_most (Fixed n) s h = omega arith
need_most (Counted w) s h = go (leb 2 (length s))
  where
    go : (t : Bool) → cond t (2 + w * be16 s) 2 ≤ 2 + w * 0xFFFF
    go true = let l : w * be16 s ≤ w * 0xFFFF = mul-le-mul_left w (be16_most s h) in omega (arith, l)
    go false = omega arith
need_most (Header n) s h = go (says_header s)
  where
    go : (t : Bool) → cond t (2 + low15 (be16 s)) n ≤ max n (2 + 0x7FFF)
    go true = let l : be16 s % 0x8000 < 0x8000 = mod-lt (be16 s) (omega arith) in omega (arith, l, le-max_right n (2 + 0x7FFF))
    go false = le-max_left n (2 + 0x7FFF)
need_most Inline s h = go (leb 4 (length s)) (is_reference s)
  where
    go : (t r : Bool) → cond t (cond r 9 (4 + be32 s)) 4 ≤ 4 + 0xFFFFFFFF
    go true true = omega arith
    go true false = omega (arith, be32_most s h)
    go false r = omega arith
need_most Locator s h = go (leb 4 (length s)) (is_reference s)
  where
    go : (t r : Bool) → cond t (cond r 9 4) 4 ≤ 9
    go true true = omega arith
    go true false = omega arith
    go false r = omega arith
need_most (Materialized n) s h = go (is_short_reference n s) refl
  where
    go : (t : Bool) → is_short_reference n s ≡ t → cond t (length s) n ≤ n
    go true e = omega (arith, (short_is n s e).2)
    go false e = omega arith

pub column_most : (c : ColumnDescriptor) (s : List ℕ) → AreBytes s → column_need c s ≤ cond c.nullable 1 0 + most_taken (extent_of c)
unfolding column_need nullable_need
column_most c = go c.nullable
  where
    go : (t : Bool) (s : List ℕ) → AreBytes s → cell_need t (extent_of c) s ≤ cond t 1 0 + most_taken (extent_of c)
    go false s h = omega (arith, need_most (extent_of c) s h)
    go true [] h = omega arith
    go true (b ∷ s) h = at_indicator (eqb b 255)
      where
        at_indicator : (t : Bool) → cond t 1 (1 + need (extent_of c) s) ≤ 1 + most_taken (extent_of c)
        at_indicator true = omega arith
        at_indicator false = omega (arith, need_most (extent_of c) s (λ i. h (suc i)))
