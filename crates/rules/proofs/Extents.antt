-- The laws of `need`, one for each kind of extent and none for a type.
--     Stays    bytes added behind a value that is there change nothing. It holds of an extent that ends itself.
--     Cuts     bytes taken away behind a value that is there change nothing. It holds of every extent.
-- Assumes nothing.
use Rattle.std.proofs.lemmas.Bool.{cases_lt, false_from_ne_true, not-true, and_parts, and_right, or_parts}
use Rattle.std.specs.Prelude.{None, Option, Some}
use Prim.Native.Nat.{ℕ, ◌+◌, ◌*◌, ◌≤◌, ◌<◌}
use mathlib.Core.Path.{◌≡◌, refl, sym, ap, ◌∙◌}
use mathlib.Core.Bool.{Bool, true, false, cond, not, ◌&&◌, ◌||◌, true≢false, false≢true}
use mathlib.Core.List.{List, ◌++◌}
use mathlib.Core.Logic.{⊎_elim}
use native.Mathlib.Omega.{arith}
use lib.ListN.{length, get_or, take, length-append, get_or-append}
use lib.Seq.{get_or-take, take-append-le, take-take, length-take-le, take_all}
use lib.Dec.{ltb, leb, eqb}
use borrow.Author.Tests.{le-leb, lt-leb, leb-true, leb-false, eqb-true, eq-eqb, ltb-true, lt-ltb, le-ltb}
use Rattle.types.specs.declared.Db2Type.{Db2Type}
use Rattle.types.specs.declared.Db2Type.TheVariants as type
use Rattle.types.specs.declared.ByteOrder.TheVariants.{BigEndian}
use Rattle.types.specs.declared.ColumnDescriptor.{ColumnDescriptor}
use Rattle.numbers.specs.Number.{unsigned}
use Rattle.numbers.proofs.Laws.{take_first}
use Rattle.rules.specs.declared.Extent.{Extent}
use Rattle.rules.specs.declared.Extent.TheVariants.{Fixed, Counted, Header, Inline, Locator, Materialized}
use Rattle.types.specs.Names.{low15, is_absent}
use Rattle.types.specs.Names.{graphic_unit}
use Rattle.rules.specs.Extent.{be16, be32, reference_mark, is_reference, is_short_reference, says_header, hex_digits, lob_need, need, lob_extent, type_extent, extent_of}
use Rattle.rules.specs.OwnEnd.{is_long_materialized, is_lob_of_length0, is_tiny_header, carries_own_end}

abbrev pub Stays : (List ℕ → ℕ) → Type 0
Stays f = (s u : List ℕ) → f s ≤ length s → f (s ++ u) ≡ f s

abbrev pub Cuts : (List ℕ → ℕ) → Type 0
Cuts f = (s : List ℕ) (m : ℕ) → f s ≤ m → m ≤ length s → f (take m s) ≡ f s

-- the first bytes of a list with bytes added behind it, and of a beginning of it
module _ (s u : List ℕ) where
  le_length_append : length s ≤ length (s ++ u)
  le_length_append = omega (arith, length-append s u)

  be16_append : 2 ≤ length s → be16 (s ++ u) ≡ be16 s
  be16_append h = ap (unsigned BigEndian) (take-append-le 2 s u h)

  be32_append : 4 ≤ length s → be32 (s ++ u) ≡ be32 s
  be32_append h = ap (unsigned BigEndian) (take-append-le 4 s u h)

module _ (s : List ℕ) (m : ℕ) where
  be16_take : 2 ≤ m → be16 (take m s) ≡ be16 s
  be16_take h = ap (unsigned BigEndian) (take-take 2 m s h)

  be32_take : 4 ≤ m → be32 (take m s) ≡ be32 s
  be32_take h = ap (unsigned BigEndian) (take-take 4 m s h)

-- a reference of nine bytes
pub reference_is : (s : List ℕ) → is_reference s ≡ true → (9 ≤ length s) × (get_or s 0 0 ≡ reference_mark)
unfolding is_reference
reference_is s e = (leb-true 9 (length s) (and_parts (leb 9 (length s)) (eqb (get_or s 0 0) reference_mark) e).0, eqb-true (get_or s 0 0) reference_mark (and_parts (leb 9 (length s)) (eqb (get_or s 0 0) reference_mark) e).1)

pub is_reference_lem : (s : List ℕ) → 9 ≤ length s → get_or s 0 0 ≡ reference_mark → is_reference s ≡ true
unfolding is_reference
is_reference_lem s h e = rw (le-leb 9 (length s) h, eq-eqb (get_or s 0 0) reference_mark e)

-- `need` at each kind of extent
pub counted_short : (w : ℕ) (s : List ℕ) → length s < 2 → need (Counted w) s ≡ 2
unfolding need
counted_short w s h = rw (lt-leb 2 (length s) h)

pub counted_long : (w : ℕ) (s : List ℕ) → 2 ≤ length s → need (Counted w) s ≡ 2 + w * be16 s
unfolding need
counted_long w s h = rw (le-leb 2 (length s) h)

unfoldable pub header_total : ℕ → ℕ → ℕ
header_total n x = cond (leb 0x8000 x) (2 + low15 x) n

pub header_short : (n : ℕ) (s : List ℕ) → length s < 2 → need (Header n) s ≡ n
unfolding need says_header
header_short n s h = rw (lt-leb 2 (length s) h)

pub header_long : (n : ℕ) (s : List ℕ) → 2 ≤ length s → need (Header n) s ≡ header_total n (be16 s)
unfolding need says_header header_total
header_long n s h = rw (le-leb 2 (length s) h)

pub header_total_below : (n x : ℕ) → header_total n x < 2 → header_total n x ≡ n
unfolding header_total
header_total_below n x = go (leb 0x8000 x)
  where
    go : (t : Bool) → cond t (2 + low15 x) n < 2 → cond t (2 + low15 x) n ≡ n
    go true h = omega arith
    go false h = refl

pub lob_short : (n : ℕ) (s : List ℕ) → length s < 4 → lob_need n s ≡ 4
unfolding lob_need
lob_short n s h = rw (lt-leb 4 (length s) h)

pub lob_reference_lem : (n : ℕ) (s : List ℕ) → is_reference s ≡ true → lob_need n s ≡ 9
unfolding lob_need
lob_reference_lem n s e = let h = reference_is s e in rw (le-leb 4 (length s) (omega arith), e)

pub lob_plain : (n : ℕ) (s : List ℕ) → 4 ≤ length s → is_reference s ≡ false → lob_need n s ≡ n
unfolding lob_need
lob_plain n s h e = rw (le-leb 4 (length s) h, e)

-- Stays: bytes are added
counted_stays : (w : ℕ) → Stays (need (Counted w))
counted_stays w s u h = ⊎_elim short long (cases_lt (length s) 2)
  where
    short : length s < 2 → need (Counted w) (s ++ u) ≡ need (Counted w) s
    short l = absurd (omega (arith, counted_short w s l))

    long : 2 ≤ length s → need (Counted w) (s ++ u) ≡ need (Counted w) s
    long l = rw (counted_long w s l, counted_long w (s ++ u) (omega (arith, le_length_append s u)), be16_append s u l)

header_stays : (n : ℕ) → 2 ≤ n → Stays (need (Header n))
header_stays n b s u h = ⊎_elim short long (cases_lt (length s) 2)
  where
    short : length s < 2 → need (Header n) (s ++ u) ≡ need (Header n) s
    short l = absurd (omega (arith, header_short n s l))

    long : 2 ≤ length s → need (Header n) (s ++ u) ≡ need (Header n) s
    long l = rw (header_long n s l, header_long n (s ++ u) (omega (arith, le_length_append s u)), be16_append s u l)

pub be32_of_02 : (s : List ℕ) → 4 ≤ length s → get_or s 0 0 ≡ reference_mark → 9 ≤ be32 s
unfolding unsigned
be32_of_02 s h z = rw (take_first s 4) (omega arith)

inline_stays : Stays (need Inline)
unfolding need
inline_stays s u h = ⊎_elim short long (cases_lt (length s) 4)
  where
    short : length s < 4 → lob_need (4 + be32 (s ++ u)) (s ++ u) ≡ lob_need (4 + be32 s) s
    short l = absurd (omega (arith, lob_short (4 + be32 s) s l))

    -- a first byte 02 with fewer than nine bytes counts far more bytes than that
    plain : 4 ≤ length s → is_reference s ≡ false → is_reference (s ++ u) ≡ true → ⊥
    plain l e f =
        let r = reference_is (s ++ u) f in
        let z : get_or s 0 0 ≡ reference_mark = sym (get_or-append s u 0 0 (omega arith)) ∙ r.1 in
        let big : 9 ≤ length s = omega (arith, lob_plain (4 + be32 s) s l e, be32_of_02 s l z) in
        true≢false (sym (is_reference_lem s big z) ∙ e)

    go : 4 ≤ length s → (t : Bool) → is_reference s ≡ t → lob_need (4 + be32 (s ++ u)) (s ++ u) ≡ lob_need (4 + be32 s) s
    go l true e =
        let r = reference_is s e in
        let f = is_reference_lem (s ++ u) (omega (arith, le_length_append s u)) (get_or-append s u 0 0 (omega arith) ∙ r.1) in
        lob_reference_lem (4 + be32 (s ++ u)) (s ++ u) f ∙ sym (lob_reference_lem (4 + be32 s) s e)
    go l false e =
        lob_plain (4 + be32 (s ++ u)) (s ++ u) (omega (arith, le_length_append s u)) (false_from_ne_true (is_reference (s ++ u)) (plain l e))
        ∙ ap (λ (x : ℕ). 4 + x) (be32_append s u l)
        ∙ sym (lob_plain (4 + be32 s) s l e)

    long : 4 ≤ length s → lob_need (4 + be32 (s ++ u)) (s ++ u) ≡ lob_need (4 + be32 s) s
    long l = go l (is_reference s) refl

pub materialized_below : (n : ℕ) (s : List ℕ) → n < 1024 → need (Materialized n) s ≡ n
unfolding need is_short_reference
materialized_below n s h = rw (lt-leb 1024 n h)

materialized_stays : (n : ℕ) → n < 1024 → Stays (need (Materialized n))
materialized_stays n b s u h = materialized_below n (s ++ u) b ∙ sym (materialized_below n s b)

-- Cuts: bytes are taken away
reference_take : (s : List ℕ) (m : ℕ) → m ≤ length s → is_reference (take m s) ≡ true → is_reference s ≡ true
reference_take s m l e =
    let r = reference_is (take m s) e in
    let k = length-take-le m s l in
    is_reference_lem s (omega arith) (sym (get_or-take m s 0 0 (omega arith)) ∙ r.1)

take_reference : (s : List ℕ) (m : ℕ) → m ≤ length s → 9 ≤ m → is_reference s ≡ true → is_reference (take m s) ≡ true
take_reference s m l b e =
    is_reference_lem (take m s) (omega (arith, length-take-le m s l)) (get_or-take m s 0 0 (omega arith) ∙ (reference_is s e).1)

counted_cuts : (w : ℕ) → Cuts (need (Counted w))
counted_cuts w s m h l = ⊎_elim short long (cases_lt (length s) 2)
  where
    short : length s < 2 → need (Counted w) (take m s) ≡ need (Counted w) s
    short b = absurd (omega (arith, counted_short w s b))

    long : 2 ≤ length s → need (Counted w) (take m s) ≡ need (Counted w) s
    long b =
        let e = counted_long w s b in
        let k : 2 ≤ m = omega arith in
        rw (e, counted_long w (take m s) (omega (arith, length-take-le m s l)), be16_take s m k)

header_cuts : (n : ℕ) → Cuts (need (Header n))
header_cuts n s m h l = ⊎_elim short long (cases_lt (length s) 2)
  where
    short : length s < 2 → need (Header n) (take m s) ≡ need (Header n) s
    short b = rw (header_short n s b, header_short n (take m s) (omega (arith, length-take-le m s l)))

    long : 2 ≤ length s → need (Header n) (take m s) ≡ need (Header n) s
    long b = ⊎_elim cut kept (cases_lt m 2)
      where
        cut : m < 2 → need (Header n) (take m s) ≡ need (Header n) s
        cut k =
            let e = header_long n s b in
            header_short n (take m s) (omega (arith, length-take-le m s l)) ∙ sym (header_total_below n (be16 s) (omega arith)) ∙ sym e

        kept : 2 ≤ m → need (Header n) (take m s) ≡ need (Header n) s
        kept k = rw (header_long n s b, header_long n (take m s) (omega (arith, length-take-le m s l)), be16_take s m k)

-- both kinds of LOB: p is the whole where no reference begins, and is the same once four bytes are there
lob_cuts : (p : List ℕ → ℕ) → ((s : List ℕ) → 4 ≤ p s) → ((s : List ℕ) (m : ℕ) → 4 ≤ m → p (take m s) ≡ p s) → Cuts (λ s. lob_need (p s) s)
lob_cuts p low same s m h l = ⊎_elim short long (cases_lt (length s) 4)
  where
    short : length s < 4 → lob_need (p (take m s)) (take m s) ≡ lob_need (p s) s
    short b = absurd (omega (arith, lob_short (p s) s b))

    go : 4 ≤ length s → (t : Bool) → is_reference s ≡ t → lob_need (p (take m s)) (take m s) ≡ lob_need (p s) s
    go b true e =
        let n = lob_reference_lem (p s) s e in
        lob_reference_lem (p (take m s)) (take m s) (take_reference s m l (omega arith) e) ∙ sym n
    go b false e =
        let n = lob_plain (p s) s b e in
        let k : 4 ≤ m = omega (arith, low s) in
        lob_plain (p (take m s)) (take m s) (omega (arith, length-take-le m s l))
        (false_from_ne_true (is_reference (take m s)) (λ f. true≢false (sym (reference_take s m l f) ∙ e)))
        ∙ same s m k
        ∙ sym n

    long : 4 ≤ length s → lob_need (p (take m s)) (take m s) ≡ lob_need (p s) s
    long b = go b (is_reference s) refl

inline_cuts : Cuts (need Inline)
unfolding need
inline_cuts = lob_cuts (λ s. 4 + be32 s) (λ s. omega arith) (λ s m k. ap (λ (x : ℕ). 4 + x) (be32_take s m k))

locator_cuts : Cuts (need Locator)
unfolding need
locator_cuts = lob_cuts (λ s. 4) (λ s. omega arith) (λ s m k. refl)

-- a short reference, by its four conditions
pub short_is : (n : ℕ) (s : List ℕ) → is_short_reference n s ≡ true → (1024 ≤ n) × (16 ≤ length s) × (length s < n) × (16 ≤ hex_digits s)
unfolding is_short_reference
short_is n s e =
    let rest₁ = leb 16 (length s) && (ltb (length s) n && leb 16 (hex_digits s)) in
    let rest₂ = ltb (length s) n && leb 16 (hex_digits s) in
    let a = (and_parts (leb 1024 n) rest₁ e).1 in
    let b = (and_parts (leb 16 (length s)) rest₂ a).1 in (
      leb-true 1024 n (and_parts (leb 1024 n) rest₁ e).0,
      leb-true 16 (length s) (and_parts (leb 16 (length s)) rest₂ a).0,
      ltb-true (length s) n (and_parts (ltb (length s) n) (leb 16 (hex_digits s)) b).0,
      leb-true 16 (hex_digits s) (and_parts (ltb (length s) n) (leb 16 (hex_digits s)) b).1,
    )

pub is_short_reference_lem : (n : ℕ) (s : List ℕ) → 1024 ≤ n → 16 ≤ length s → length s < n → 16 ≤ hex_digits s → is_short_reference n s ≡ true
unfolding is_short_reference
is_short_reference_lem n s a b c d = rw (le-leb 1024 n a, le-leb 16 (length s) b, lt-ltb (length s) n c, le-leb 16 (hex_digits s) d)

materialized_cuts : (n : ℕ) → Cuts (need (Materialized n))
unfolding need
materialized_cuts n s m h l = go (is_short_reference n s) refl
  where
    long : n ≤ m → is_short_reference n (take m s) ≡ true → ⊥
    long b e = omega (arith, (short_is n (take m s) e).2, length-take-le m s l)

    go : (t : Bool) → is_short_reference n s ≡ t → need (Materialized n) (take m s) ≡ need (Materialized n) s
    go true e =
        let k : length s ≤ m = rw e at h in
        ap (need (Materialized n)) (take_all m s k)
    go false e =
        let k : n ≤ m = rw e at h in
        rw (false_from_ne_true (is_short_reference n (take m s)) (long k), e)

-- The Rust makes its tests on the rest of the row, and specs/Meaning.antt on the value's own bytes: they agree
pub reference_agrees : (whole : ℕ) (s : List ℕ) → lob_need whole s ≤ length s → is_reference (take (lob_need whole s) s) ≡ is_reference s
reference_agrees whole s h = go (is_reference s) refl
  where
    go : (t : Bool) → is_reference s ≡ t → is_reference (take (lob_need whole s) s) ≡ t
    go true e =
        let n = lob_reference_lem whole s e in
        take_reference s (lob_need whole s) h (omega arith) e
    go false e = false_from_ne_true (is_reference (take (lob_need whole s) s)) (λ f. true≢false (sym (reference_take s (lob_need whole s) h f) ∙ e))

says_short : (s : List ℕ) → length s < 2 → says_header s ≡ false
unfolding says_header
says_short s h = rw (lt-leb 2 (length s) h)

says_long : (s : List ℕ) → 2 ≤ length s → says_header s ≡ leb 0x8000 (be16 s)
unfolding says_header
says_long s h = rw (le-leb 2 (length s) h)

header_of : (n : ℕ) (s : List ℕ) (t : Bool) → says_header s ≡ t → need (Header n) s ≡ cond t (2 + low15 (be16 s)) n
unfolding need
header_of n s t e = rw e

pub header_agrees : (n : ℕ) (s : List ℕ) → need (Header n) s ≤ length s → says_header (take (need (Header n) s) s) ≡ says_header s
header_agrees n s h = ⊎_elim cut kept (cases_lt (need (Header n) s) 2)
  where
    -- fewer than two bytes taken: then none said a header
    none_said : (t : Bool) → says_header s ≡ t → need (Header n) s < 2 → false ≡ t
    none_said true e l = absurd (omega (arith, header_of n s true e))
    none_said false e l = refl

    cut : need (Header n) s < 2 → says_header (take (need (Header n) s) s) ≡ says_header s
    cut l =
        says_short (take (need (Header n) s) s) (omega (arith, length-take-le (need (Header n) s) s h)) ∙ none_said (says_header s) refl l

    kept : 2 ≤ need (Header n) s → says_header (take (need (Header n) s) s) ≡ says_header s
    kept l =
        says_long (take (need (Header n) s) s) (omega (arith, length-take-le (need (Header n) s) s h))
        ∙ ap (leb 0x8000) (be16_take s (need (Header n) s) l)
        ∙ sym (says_long s (omega arith))

pub whole_of : (n : ℕ) (s : List ℕ) (t : Bool) → is_short_reference n s ≡ t → need (Materialized n) s ≡ cond t (length s) n
unfolding need
whole_of n s t e = rw e

-- as many bytes as declared, or more, are no short reference
pub not_short : (n : ℕ) (s : List ℕ) → n ≤ length s → is_short_reference n s ≡ false
unfolding is_short_reference
not_short n s h = rw (le-ltb (length s) n h, and_right (leb 16 (length s)) false refl, and_right (leb 1024 n) false refl)

pub materialized_there : (n : ℕ) (s : List ℕ) → n ≤ length s → need (Materialized n) s ≡ n
materialized_there n s h = whole_of n s false (not_short n s h)

pub short_agrees : (n : ℕ) (s : List ℕ) → need (Materialized n) s ≤ length s → is_short_reference n (take (need (Materialized n) s) s) ≡ is_short_reference n s
short_agrees n s h = go (is_short_reference n s) refl
  where
    go : (t : Bool) → is_short_reference n s ≡ t → is_short_reference n (take (need (Materialized n) s) s) ≡ t
    go true e = ap (is_short_reference n) (take_all (need (Materialized n) s) s (omega (arith, whole_of n s true e))) ∙ e
    go false e =
        let w = whole_of n s false e in
        not_short n (take (need (Materialized n) s) s) (omega (arith, length-take-le (need (Materialized n) s) s h))

-- the kinds of extent that W9 lists: what a LobBytes or LobChar declares is 1,024 or more, a locator, a header of no bytes or of one
abbrev pub declares_many : Extent → Bool
declares_many (Fixed n) = false
declares_many (Counted w) = false
declares_many (Header n) = false
declares_many Inline = false
declares_many Locator = false
declares_many (Materialized n) = leb 1024 n

abbrev pub is_locator : Extent → Bool
is_locator (Fixed n) = false
is_locator (Counted w) = false
is_locator (Header n) = false
is_locator Inline = false
is_locator Locator = true
is_locator (Materialized n) = false

abbrev pub is_short_header : Extent → Bool
is_short_header (Fixed n) = false
is_short_header (Counted w) = false
is_short_header (Header n) = leb n 1
is_short_header Inline = false
is_short_header Locator = false
is_short_header (Materialized n) = false

-- and all others
abbrev pub is_unlisted : Extent → Bool
is_unlisted e = not (declares_many e || (is_locator e || is_short_header e))

-- those that end themselves
unfoldable pub ends_itself : Extent → Bool
ends_itself (Fixed n) = true
ends_itself (Counted w) = true
ends_itself (Header n) = leb 2 n
ends_itself Inline = true
ends_itself Locator = false
ends_itself (Materialized n) = ltb n 1024

pub from_2 : (n : ℕ) → is_unlisted (Header n) ≡ true → 2 ≤ n
from_2 n t = leb-false n 1 (not-true (leb n 1) t)

pub below_1024 : (n : ℕ) → is_unlisted (Materialized n) ≡ true → n < 1024
below_1024 n t = leb-false 1024 n (or_parts (leb 1024 n) false (not-true (leb 1024 n || false) t)).0

fixed_stays : (n : ℕ) → Stays (need (Fixed n))
unfolding need
fixed_stays n s u h = refl

pub unlisted_ends : (e : Extent) → is_unlisted e ≡ true → ends_itself e ≡ true
unfolding ends_itself
unlisted_ends (Fixed n) t = refl
unlisted_ends (Counted w) t = refl
unlisted_ends (Header n) t = le-leb 2 n (from_2 n t)
unlisted_ends Inline t = refl
unlisted_ends Locator t = t
unlisted_ends (Materialized n) t = lt-ltb n 1024 (below_1024 n t)

pub stays : (e : Extent) → ends_itself e ≡ true → Stays (need e)
unfolding ends_itself
stays (Fixed n) t = fixed_stays n
stays (Counted w) t = counted_stays w
stays (Header n) t = header_stays n (leb-true 2 n t)
stays Inline t = inline_stays
stays Locator t = absurd (false≢true t)
stays (Materialized n) t = materialized_stays n (ltb-true n 1024 t)

pub unlisted_stays : (e : Extent) → is_unlisted e ≡ true → Stays (need e)
unlisted_stays e t = stays e (unlisted_ends e t)

fixed_cuts : (n : ℕ) → Cuts (need (Fixed n))
unfolding need
fixed_cuts n s m h l = refl

pub cuts : (e : Extent) → Cuts (need e)
cuts (Fixed n) = fixed_cuts n
cuts (Counted w) = counted_cuts w
cuts (Header n) = header_cuts n
cuts Inline = inline_cuts
cuts Locator = locator_cuts
cuts (Materialized n) = materialized_cuts n

-- W9 lists a column exactly where its extent is of such a kind
abbrev SameExceptions : Bool → Bool → Bool → Extent → Type 0
SameExceptions long lob tiny e = (long ≡ declares_many e) × (lob ≡ is_locator e) × (tiny ≡ is_short_header e)

varying_exceptions : (b : Bool) (k unit : ℕ) → SameExceptions false false (b && leb k 1) (cond b (Header k) (Counted unit))
varying_exceptions true k unit = (refl, refl, refl)
varying_exceptions false k unit = (refl, refl, refl)

lob_exceptions : (r : Option ℕ) (b : Bool) → SameExceptions false (is_absent r && b) false (lob_extent r (cond b Locator Inline))
lob_exceptions (Some w) b = (refl, refl, refl)
lob_exceptions None true = (refl, refl, refl)
lob_exceptions None false = (refl, refl, refl)

xml_exceptions : (r : Option ℕ) → SameExceptions false false false (lob_extent r Inline)
xml_exceptions (Some w) = (refl, refl, refl)
xml_exceptions None = (refl, refl, refl)

type_exceptions : (t : Db2Type) (c : ColumnDescriptor) → SameExceptions (is_long_materialized t) (is_lob_of_length0 t c) (is_tiny_header t) (type_extent t c)
type_exceptions type.SmallInt c = (refl, refl, refl)
type_exceptions type.Integer c = (refl, refl, refl)
type_exceptions type.BigInt c = (refl, refl, refl)
type_exceptions type.Real c = (refl, refl, refl)
type_exceptions type.Double c = (refl, refl, refl)
type_exceptions (type.Decimal precision scale) c = (refl, refl, refl)
type_exceptions (type.DecFloat digits) c = (refl, refl, refl)
type_exceptions (type.Char n) c = (refl, refl, refl)
type_exceptions (type.VarChar n) c = varying_exceptions (leb 0x8000 n) (low15 n) 1
type_exceptions type.LongVarChar c = (refl, refl, refl)
type_exceptions type.Clob c = lob_exceptions c.extdta_reference_length (eqb c.length 0)
type_exceptions (type.Binary n) c = (refl, refl, refl)
type_exceptions (type.VarBinary n) c = (refl, refl, refl)
type_exceptions type.Blob c = lob_exceptions c.extdta_reference_length (eqb c.length 0)
type_exceptions type.BlobLocator c = (refl, refl, refl)
type_exceptions type.Date c = (refl, refl, refl)
type_exceptions type.Time c = (refl, refl, refl)
type_exceptions type.Timestamp c = (refl, refl, refl)
type_exceptions (type.Graphic n) c = (refl, refl, refl)
type_exceptions (type.VarGraphic n) c = varying_exceptions (leb 0x8000 n) (low15 n) (graphic_unit c)
type_exceptions type.DbClob c = lob_exceptions c.extdta_reference_length (eqb c.length 0)
type_exceptions type.ClobLocator c = (refl, refl, refl)
type_exceptions type.DbClobLocator c = (refl, refl, refl)
type_exceptions (type.LobBytes n) c = (refl, refl, refl)
type_exceptions (type.LobChar n) c = (refl, refl, refl)
type_exceptions (type.RowId n) c = (refl, refl, refl)
type_exceptions type.Boolean c = (refl, refl, refl)
type_exceptions type.Xml c = xml_exceptions c.extdta_reference_length
type_exceptions type.Null c = (refl, refl, refl)

pub column_exceptions : (c : ColumnDescriptor) → SameExceptions (is_long_materialized c.db2_type) (is_lob_of_length0 c.db2_type c) (is_tiny_header c.db2_type) (extent_of c)
column_exceptions c = type_exceptions c.db2_type c

none_of : {a b x y z w : Bool} → a ≡ x → b ≡ y → z ≡ w → not (a || (b || z)) ≡ not (x || (y || w))
none_of e f g = cc

pub column_unlisted : (c : ColumnDescriptor) → carries_own_end c ≡ is_unlisted (extent_of c)
unfolding carries_own_end
column_unlisted c = let x = column_exceptions c in none_of x.0 x.1 x.2

-- a column that W9 does not list has an extent that ends itself
header_ends : (b : Bool) (k unit : ℕ) → (b && leb k 1) ≡ false → ends_itself (cond b (Header k) (Counted unit)) ≡ true
unfolding ends_itself
header_ends true k unit e = le-leb 2 k (omega (arith, leb-false k 1 e))
header_ends false k unit e = refl

lob_ends : (r : Option ℕ) (b : Bool) → ((is_absent r && b) || false) ≡ false → ends_itself (lob_extent r (cond b Locator Inline)) ≡ true
unfolding ends_itself
lob_ends (Some w) b e = refl
lob_ends None true e = absurd (true≢false e)
lob_ends None false e = refl

xml_ends : (r : Option ℕ) → ends_itself (lob_extent r Inline) ≡ true
unfolding ends_itself
xml_ends (Some w) = refl
xml_ends None = refl

materialized_ends : (k : ℕ) → (leb 1024 k || false) ≡ false → ends_itself (Materialized k) ≡ true
unfolding ends_itself
materialized_ends k e = lt-ltb k 1024 (leb-false 1024 k (or_parts (leb 1024 k) false e).0)

type_ends : (t : Db2Type) (c : ColumnDescriptor) → (is_long_materialized t || (is_lob_of_length0 t c || is_tiny_header t)) ≡ false → ends_itself (type_extent t c) ≡ true
unfolding ends_itself
type_ends type.SmallInt c e = refl
type_ends type.Integer c e = refl
type_ends type.BigInt c e = refl
type_ends type.Real c e = refl
type_ends type.Double c e = refl
type_ends (type.Decimal precision scale) c e = refl
type_ends (type.DecFloat digits) c e = refl
type_ends (type.Char n) c e = refl
type_ends (type.VarChar n) c e = header_ends (leb 0x8000 n) (low15 n) 1 e
type_ends type.LongVarChar c e = refl
type_ends type.Clob c e = lob_ends c.extdta_reference_length (eqb c.length 0) e
type_ends (type.Binary n) c e = refl
type_ends (type.VarBinary n) c e = refl
type_ends type.Blob c e = lob_ends c.extdta_reference_length (eqb c.length 0) e
type_ends type.BlobLocator c e = refl
type_ends type.Date c e = refl
type_ends type.Time c e = refl
type_ends type.Timestamp c e = refl
type_ends (type.Graphic n) c e = refl
type_ends (type.VarGraphic n) c e = header_ends (leb 0x8000 n) (low15 n) (graphic_unit c) e
type_ends type.DbClob c e = lob_ends c.extdta_reference_length (eqb c.length 0) e
type_ends type.ClobLocator c e = refl
type_ends type.DbClobLocator c e = refl
type_ends (type.LobBytes n) c e = materialized_ends (low15 n) e
type_ends (type.LobChar n) c e = materialized_ends (low15 n) e
type_ends (type.RowId n) c e = refl
type_ends type.Boolean c e = refl
type_ends type.Xml c e = xml_ends c.extdta_reference_length
type_ends type.Null c e = refl

pub column_ends : (c : ColumnDescriptor) → carries_own_end c ≡ true → ends_itself (extent_of c) ≡ true
unfolding carries_own_end
column_ends c e =
    let t = c.db2_type in
    type_ends t c (not-true (is_long_materialized t || (is_lob_of_length0 t c || is_tiny_header t)) e)
