-- Runs of ASCII. Assumes nothing.
use Prim.Native.Nat.{ℕ, suc, ◌+◌, ◌-◌, ◌≤◌, ◌<◌}
use mathlib.Core.Bool.{Bool, true, false, cond, not, ◌&&◌, ◌||◌}
use mathlib.Core.List.{List, [], ◌∷◌, ◌++◌}
use mathlib.Core.Path.{◌≡◌, refl, sym, ap, subst, ◌∙◌}
use native.Mathlib.Omega.{arith}
use native.Mathlib.Numerals.{add-one}
use borrow.Author.Tests.{ltb-true, ltb-false, lt-ltb, le-leb, lt-leb, leb-false, not-true, not-false}
use lib.Bits.{bit_or, or_add_and, and_le_l, and_le_r}
use lib.Dec.{T, ltb, leb}
use lib.ListN.{length, take, drop, get_or, length-drop, length-append}
use lib.Seq.{take-append-le, take-suc, take-add, take_all, drop-drop, take-append_seam, drop-append_seam}
use Rattle.unicode_standard.specs.Ascii.{all_ascii}
use Rattle.unicode_standard.proofs.Ranges.{never}
use Rattle.utf.specs.Ascii.{AsciiRun}
use Rattle.std.specs.Int.{from_bool}

-- ---- a whole list, read from its first byte on, with the largest byte so far

cond_same : (t : Bool) → cond t false false ≡ false
cond_same true = refl
cond_same false = refl

-- nothing so far is 80 or above, and nothing of what is left
abbrev pub clear : ℕ → List ℕ → Bool
clear m l = cond (ltb m 0x80) (all_ascii l) false

-- a larger byte takes the place of the largest
pub larger : (m b : ℕ) (bs : List ℕ) → m < b → clear m (b ∷ bs) ≡ clear b bs
unfolding all_ascii
larger m b bs h = go (ltb b 0x80) refl
  where
    go : (t : Bool) → ltb b 0x80 ≡ t → clear m (b ∷ bs) ≡ clear b bs
    go true e = let k : b < 0x80 = ltb-true b 0x80 e in rw (lt-ltb m 0x80 (omega arith), e)
    go false e = rw e (cond_same (ltb m 0x80))

-- any other changes nothing
pub no_larger : (m b : ℕ) (bs : List ℕ) → b ≤ m → clear m (b ∷ bs) ≡ clear m bs
unfolding all_ascii
no_larger m b bs h = go (ltb m 0x80) refl
  where
    go : (t : Bool) → ltb m 0x80 ≡ t → clear m (b ∷ bs) ≡ clear m bs
    go true e = let k : m < 0x80 = ltb-true m 0x80 e in rw (e, lt-ltb b 0x80 (omega arith))
    go false e = rw e

pub found : (m : ℕ) (x : Bool) → clear m [] ≡ x → leb 0x80 m ≡ not x
unfolding all_ascii
found m x e = go (ltb m 0x80) refl
  where
    go : (t : Bool) → ltb m 0x80 ≡ t → leb 0x80 m ≡ not x
    go true q = rw (lt-leb 0x80 m (ltb-true m 0x80 q)) (ap not (rw q at e))
    go false q = rw (le-leb 0x80 m (ltb-false m 0x80 q)) (ap not (rw q at e))

pub none_high : (h x : Bool) → h ≡ not x → h ≡ false → x ≡ true
none_high h x e q = not-false x (sym e ∙ q)

pub some_high : (h x : Bool) → h ≡ not x → h ≡ true → x ≡ false
some_high h x e q = not-true x (sym e ∙ q)

-- ---- runs

-- what is lent as `&s[i..]` is what is left
pub rest : (s : List ℕ) (i : ℕ) → take (length s - i) (drop i s) ≡ drop i s
rest s i = take_all (length s - i) (drop i s) (omega (arith, length-drop i s))

pub rest_length : (s : List ℕ) (i : ℕ) → length (take (length s - i) (drop i s)) ≡ length s - i
rest_length s i = ap length (rest s i) ∙ length-drop i s

ascii_append : (a b : List ℕ) → all_ascii a ≡ true → all_ascii b ≡ true → all_ascii (a ++ b) ≡ true
unfolding all_ascii
ascii_append [] b e q = q
ascii_append (x ∷ a) b e q = go (ltb x 0x80) refl (ascii_append a b)
  where
    go : (t : Bool) → ltb x 0x80 ≡ t → (all_ascii a ≡ true → all_ascii b ≡ true → all_ascii (a ++ b) ≡ true) → cond (ltb x 0x80) (all_ascii (a ++ b)) false ≡ true
    go true k rec = rw k (rec (rw k at e) q)
    go false k rec = rw k (rw k at e)

pub run_none : (s : List ℕ) → AsciiRun 0 s
unfolding all_ascii
run_none s = record { fits = omega arith; ascii = refl }

-- a run, and another after it
pub run_more : (n m : ℕ) (s : List ℕ) → AsciiRun n s → AsciiRun m (drop n s) → AsciiRun (n + m) s
run_more n m s r q = record {
  fits = omega (arith, r.fits, q.fits, length-drop n s);
  ascii = rw (take-add n m s) (ascii_append (take n s) (take m (drop n s)) r.ascii q.ascii);
}

-- a block more
pub run_block : (i e : ℕ) (s : List ℕ) → AsciiRun i s → i ≤ e → e ≤ length s → all_ascii (take (e - i) (drop i s)) ≡ true → AsciiRun e s
run_block i e s r h k q =
    let z : i + (e - i) ≡ e = omega arith in
    record { fits = k; ascii = rw (← z, take-add i (e - i) s) (ascii_append (take i s) (take (e - i) (drop i s)) r.ascii q) }

-- a chunk that is there
pub chunk_fits : (n m : ℕ) (s block rest : List ℕ) → drop n s ≡ block ++ rest → length block ≡ m → n ≤ length s → n + m ≤ length s
chunk_fits n m s block rest e k h = omega (arith, ap length e, length-append block rest, length-drop n s)

-- what is left after it
pub chunk_rest : (n m : ℕ) (s block rest : List ℕ) → drop n s ≡ block ++ rest → length block ≡ m → rest ≡ drop (n + m) s
chunk_rest n m s block rest e k =
    let back : drop m (drop n s) ≡ rest = rw (e, ← k) (drop-append_seam block rest) in
    sym back ∙ drop-drop m n s

-- a chunk more
pub run_chunk : (n m : ℕ) (s : List ℕ) → AsciiRun n s → (block rest : List ℕ) → drop n s ≡ block ++ rest → length block ≡ m → all_ascii block ≡ true → (rest ≡ drop (n + m) s) × AsciiRun (n + m) s
run_chunk n m s r block rest e k q =
    let front : take m (drop n s) ≡ block = rw (e, ← k) (take-append_seam block rest) in (
      chunk_rest n m s block rest e k,
      run_more n m s r (record { fits = omega (arith, ap length e, length-append block rest, k); ascii = rw front q }),
    )

-- a run of the front
pub run_longer : (k : ℕ) (block more : List ℕ) → AsciiRun k block → AsciiRun k (block ++ more)
run_longer k block more r = record { fits = omega (arith, length-append block more, r.fits); ascii = rw (take-append-le k block more r.fits) r.ascii }

-- a byte more
pub run_byte : (i : ℕ) (s : List ℕ) → AsciiRun i s → i < length s → get_or s i 0 < 0x80 → AsciiRun (i + 1) s
unfolding all_ascii
run_byte i s r h k = record {
  fits = omega arith;
  ascii = rw (add-one i, take-suc s i 0 h) (ascii_append (take i s) (get_or s i 0 ∷ []) r.ascii (rw (lt-ltb (get_or s i 0) 0x80 k)));
}

-- a byte more, where none is 7F or above
pub run_unless : (s : List ℕ) (i : ℕ) (high : Bool) → (high ≡ false → AsciiRun i s) → i < length s → (leb 0x7F (get_or s i 0) || high) ≡ false → AsciiRun (i + 1) s
run_unless s i high f h e = go (leb 0x7F (get_or s i 0)) refl e
  where
    go : (t : Bool) → leb 0x7F (get_or s i 0) ≡ t → (t || high) ≡ false → AsciiRun (i + 1) s
    go true q z = never (sym z)
    go false q z = run_byte i s (f z) h (omega (arith, leb-false 0x7F (get_or s i 0) q))

-- n bytes of the first i are a run, and all of them where all are ASCII
pub record Leading (s : List ℕ) (all : Bool) (n i : ℕ) : Type 0 where
  pub run : AsciiRun n s
  pub so_far : all ≡ true → n ≡ i
  pub most : n ≤ i

-- a byte more
pub leading_more : (s : List ℕ) (all : Bool) (n i : ℕ) → Leading s all n i → i < length s → (m : ℕ) → m ≡ from_bool (all && ltb (get_or s i 0) 0x80) → Leading s (all && ltb (get_or s i 0) 0x80) (n + m) (i + 1)
leading_more s all n i l h m q = go all (ltb (get_or s i 0) 0x80) refl refl q
  where
    go : (x y : Bool) → all ≡ x → ltb (get_or s i 0) 0x80 ≡ y → m ≡ from_bool (x && y) → Leading s (x && y) (n + m) (i + 1)
    go true true e f z =
        let k : n ≡ i = l.so_far e in
        let o : n + m ≡ n + 1 = omega arith in
        rw o (record { run = run_byte n s l.run (omega arith) (rw k (ltb-true (get_or s i 0) 0x80 f)); so_far = λ w. omega arith; most = omega arith })
    go true false e f z = let o : n + m ≡ n = omega arith in rw o (record { run = l.run; so_far = λ w. never w; most = omega (arith, l.most) })
    go false y e f z = let o : n + m ≡ n = omega arith in rw o (record { run = l.run; so_far = λ w. never w; most = omega (arith, l.most) })

-- the first byte of a run, and the run after it
pub run_first : (b : ℕ) (bs : List ℕ) (n : ℕ) → AsciiRun (suc n) (b ∷ bs) → (b < 0x80) × AsciiRun n bs
unfolding all_ascii
run_first b bs n r = go (ltb b 0x80) refl
  where
    go : (t : Bool) → ltb b 0x80 ≡ t → (b < 0x80) × AsciiRun n bs
    go true k = (ltb-true b 0x80 k, record { fits = omega (arith, r.fits); ascii = rw k at r.ascii })
    go false k = absurd (subst T (sym (rw k at r.ascii)) tt)

-- ---- eight bytes at once

below_or : (a b : ℕ) → bit_or a b < 0x80 → (a < 0x80) × (b < 0x80)
below_or a b h = (omega (arith, or_add_and a b, and_le_r a b), omega (arith, or_add_and a b, and_le_l a b))

-- the bitwise or of four bytes
abbrev pub or4 : List ℕ → ℕ → ℕ → ℕ → ℕ → ℕ
or4 s i j k l = bit_or (bit_or (bit_or (get_or s i 0) (get_or s j 0)) (get_or s k 0)) (get_or s l 0)

four : (i : ℕ) (s : List ℕ) → i + 4 ≤ length s → AsciiRun i s → or4 s i (i + 1) (i + 1 + 1) (i + 1 + 1 + 1) < 0x80 → AsciiRun (i + 1 + 1 + 1 + 1) s
four i s h r q =
    let x : (bit_or (bit_or (get_or s i 0) (get_or s (i + 1) 0)) (get_or s (i + 1 + 1) 0) < 0x80) × (get_or s (i + 1 + 1 + 1) 0 < 0x80) = below_or _ _ q in
    let y : (bit_or (get_or s i 0) (get_or s (i + 1) 0) < 0x80) × (get_or s (i + 1 + 1) 0 < 0x80) = below_or _ _ x.0 in
    let z : (get_or s i 0 < 0x80) × (get_or s (i + 1) 0 < 0x80) = below_or _ _ y.0 in
    run_byte _ s (run_byte _ s (run_byte _ s (run_byte i s r (omega arith) z.0) (omega arith) z.1) (omega arith) y.1) (omega arith) x.1

pub eight : (s : List ℕ) → 8 ≤ length s → bit_or (or4 s 0 1 2 3) (or4 s 4 5 6 7) < 0x80 → AsciiRun 8 s
eight s h q =
    let x = below_or (or4 s 0 1 2 3) (or4 s 4 5 6 7) q in
    four 4 s (omega arith) (four 0 s (omega arith) (run_none s) x.0) x.1
