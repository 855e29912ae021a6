-- Runs of well-formed UTF-8, and the parts between them. Assumes nothing.
use Prim.Native.Nat.{ℕ, zero, suc, ◌+◌, ◌-◌, ◌≤◌, ◌<◌}
use mathlib.Core.Bool.{Bool, true, false, cond, not}
use mathlib.Core.List.{List, [], ◌∷◌, ◌++◌, append_assoc, append-nil}
use mathlib.Core.Option.{Option as LogicOption, none, some}
use Rattle.std.specs.Prelude.{Option, Some, None, is_some}
use mathlib.Core.Path.{◌≡◌, refl, sym, ap, subst, ◌∙◌}
use native.Mathlib.Omega.{arith}
use lib.Dec.{T}
use lib.ListN.{length, take, drop, get_or, length-drop, drop_of_length-le, length-append}
use lib.Seq.{drop-cons, drop-drop, take-add, take_at, length-take-le}
use Rattle.unicode_standard.specs.Unicode.{Piece, scalar, malformed, utf8, piece_text, pieces_text, replacements_in, replacements, Range, Sequence, within, fit, first_by, first_of, sequence_in, table_3_7, read_from, utf8_pieces}
use Rattle.utf.specs.Utf8Code.{first_at, is_scalar, PieceAt, Good, Stop}
use Rattle.unicode_standard.specs.Unicode.{utf8_text}
use Rattle.utf.specs.Ascii.{AsciiRun}
use Rattle.utf.proofs.AsciiLaws.{run_first, rest}
use Rattle.utf.proofs.Utf8Laws.{step_ascii}
use Rattle.buffer.specs.Buffer.{overwritten}
use Rattle.buffer.proofs.Writing.{Writing, next}
use Rattle.unicode_standard.proofs.Ranges.{never}
use Rattle.unicode_standard.proofs.Reading.{read_cons, text_append, replaced_append}
use Rattle.unicode_standard.proofs.Utf8Bytes.{first_text}

-- ---- a run, put together

pub good_none : (l : List ℕ) → Good 0 l
unfolding pieces_text replacements
good_none l = record { ps = []; split = refl; text = refl; none = refl; fits = omega arith }

pub good_more : (n m : ℕ) (l : List ℕ) → Good n l → Good m (drop n l) → Good (n + m) l
good_more n m l g h = record {
  ps = g.ps ++ h.ps;
  split = g.split ∙ rw (h.split, drop-drop m n l, append_assoc);
  text = text_append g.ps h.ps ∙ rw (g.text, h.text, take-add n m l);
  none = replaced_append g.ps h.ps ∙ rw (g.none, h.none);
  fits = omega (arith, length-drop n l, g.fits, h.fits);
}

-- ---- what stands at a position

-- the trail bytes that fit are there
fit_length : (rs : List Range) (bs : List ℕ) → fit rs bs ≤ length bs
unfolding fit
fit_length [] bs = omega arith
fit_length (r ∷ rs) [] = omega arith
fit_length (r ∷ rs) (b ∷ bs) = go (within b r) (fit_length rs bs)
  where
    go : (t : Bool) → fit rs bs ≤ length bs → cond t (suc (fit rs bs)) zero ≤ suc (length bs)
    go true h = omega arith
    go false h = omega arith

by_length : (o : LogicOption Sequence) (b : ℕ) (bs : List ℕ) → (first_by o b bs).more ≤ length bs
unfolding first_by
by_length none b bs = omega arith
by_length (some r) b bs = fit_length r.trails bs

pub more_length : (b : ℕ) (bs : List ℕ) → (first_of b bs).more ≤ length bs
unfolding first_of
more_length b bs = by_length (sequence_in table_3_7 b) b bs

good_one : (b : ℕ) (bs : List ℕ) (p : Piece) → (first_of b bs).piece ≡ p → is_scalar p ≡ true → Good (suc (first_of b bs).more) (b ∷ bs)
unfolding pieces_text piece_text replacements
good_one b bs (scalar v) e q = record {
  ps = scalar v ∷ [];
  split = read_cons first_of b bs ∙ rw e;
  text = append-nil (utf8 v) ∙ first_text b bs v e;
  none = refl;
  fits = omega (arith, more_length b bs);
}
good_one b bs malformed e q = absurd (subst T (sym q) tt)

stop_one : (b : ℕ) (bs : List ℕ) (p : Piece) → (first_of b bs).piece ≡ p → is_scalar p ≡ false → utf8_pieces (b ∷ bs) ≡ malformed ∷ utf8_pieces (drop (first_of b bs).more bs)
stop_one b bs (scalar v) e q = absurd (subst T q tt)
stop_one b bs malformed e q = read_cons first_of b bs ∙ rw e

module _ (s : List ℕ) (i n : ℕ) (h : i < length s) (e : n ≡ suc (first_at s i).more) where
  pub good_at : is_scalar (first_at s i).piece ≡ true → Good n (drop i s)
  unfolding first_at
  good_at q = rw (e, drop-cons s i 0 h) (good_one (get_or s i 0) (drop (suc i) s) _ refl q)

  pub stop_at : is_scalar (first_at s i).piece ≡ false → Stop i (Some n) s
  unfolding first_at
  stop_at q =
      let k : suc i + (first_at s i).more ≡ i + n = omega (arith, e) in (
        omega (arith, e),
        (
          rw (drop-cons s i 0 h) (stop_one (get_or s i 0) (drop (suc i) s) _ refl q ∙ rw (drop-drop (first_at s i).more (suc i) s, k)),
          omega (arith, length-drop (suc i) s, more_length (get_or s i 0) (drop (suc i) s)),
        ),
      )

pub stop_end : (n : ℕ) (l : List ℕ) → Good n l → length l ≤ n → Stop n None l
stop_end n l g h = omega (arith, g.fits)

pub stop_whole : (n : ℕ) (m : Option ℕ) (l : List ℕ) → Stop n m l → (x : Bool) → is_some m ≡ not x → x ≡ true → n ≡ length l
stop_whole n None l s x q e = s
stop_whole n (Some m) l s x q e = never (sym (rw e at q))

-- ---- the text of a run and of what follows it

pub good_text : (n : ℕ) (l : List ℕ) → Good n l → utf8_text l ≡ take n l ++ utf8_text (drop n l)
unfolding utf8_text
good_text n l g = rw g.split (text_append g.ps (utf8_pieces (drop n l)) ∙ rw g.text)

pub good_count : (n : ℕ) (l : List ℕ) → Good n l → replacements (utf8_pieces l) ≡ replacements (utf8_pieces (drop n l))
good_count n l g = rw g.split (replaced_append g.ps (utf8_pieces (drop n l)) ∙ omega (arith, g.none))

-- the text of the piece at i, and of what follows it; and what is replaced
module _ (s : List ℕ) (i n : ℕ) (ok : Bool) (h : i < length s) (p : PieceAt s i n ok) where
  pub piece_text_lem : utf8_text (drop i s) ≡ piece_text (first_at s i).piece ++ utf8_text (drop (i + n) s)
  unfolding utf8_text pieces_text first_at
  piece_text_lem =
      let m : ℕ = (first_of (get_or s i 0) (drop (suc i) s)).more in
      let q : suc i + m ≡ i + n = omega (arith, p.0) in
      rw (drop-cons s i 0 h, read_cons first_of (get_or s i 0) (drop (suc i) s), drop-drop m (suc i) s, q)

  pub piece_count : replacements (utf8_pieces (drop i s)) ≡ replacements_in (first_at s i).piece + replacements (utf8_pieces (drop (i + n) s))
  unfolding replacements first_at
  piece_count =
      let m : ℕ = (first_of (get_or s i 0) (drop (suc i) s)).more in
      let q : suc i + m ≡ i + n = omega (arith, p.0) in
      rw (drop-cons s i 0 h, read_cons first_of (get_or s i 0) (drop (suc i) s), drop-drop m (suc i) s, q)

  pub piece_fits : i + n ≤ length s
  unfolding first_at
  piece_fits = omega (arith, p.0, length-drop (suc i) s, more_length (get_or s i 0) (drop (suc i) s))

-- a scalar value is its own bytes, and a malformed part U+FFFD
own_bytes : (b : ℕ) (bs : List ℕ) (p : Piece) → (first_of b bs).piece ≡ p → is_scalar p ≡ true → piece_text p ≡ take (suc (first_of b bs).more) (b ∷ bs)
unfolding piece_text
own_bytes b bs (scalar v) e q = first_text b bs v e
own_bytes b bs malformed e q = absurd (subst T (sym q) tt)

replaced_text : (p : Piece) → is_scalar p ≡ false → piece_text p ≡ utf8 0xFFFD
unfolding piece_text
replaced_text (scalar v) q = absurd (subst T q tt)
replaced_text malformed q = refl

-- a scalar value is not replaced, and a malformed part is
kept_count : (p : Piece) → is_scalar p ≡ true → replacements_in p ≡ 0
kept_count (scalar v) q = refl
kept_count malformed q = absurd (subst T (sym q) tt)

replaced_count : (p : Piece) → is_scalar p ≡ false → replacements_in p ≡ 1
replaced_count (scalar v) q = absurd (subst T q tt)
replaced_count malformed q = refl

module _ (s : List ℕ) (i n : ℕ) where
  pub whole_text : i < length s → PieceAt s i n true → piece_text (first_at s i).piece ≡ take n (drop i s)
  unfolding first_at
  whole_text h p = own_bytes (get_or s i 0) (drop (suc i) s) _ refl (sym p.1) ∙ rw (p.0, drop-cons s i 0 h)

  pub whole_length : i < length s → PieceAt s i n true → length (piece_text (first_at s i).piece) ≡ n
  whole_length h p = ap length (whole_text h p) ∙ length-take-le n (drop i s) (omega (arith, length-drop i s, piece_fits s i n true h p))

  pub broken_text : PieceAt s i n false → piece_text (first_at s i).piece ≡ utf8 0xFFFD
  broken_text p = replaced_text (first_at s i).piece (sym p.1)

  pub broken_length : PieceAt s i n false → length (piece_text (first_at s i).piece) ≡ 3
  unfolding utf8
  broken_length p = ap length (broken_text p)

  pub whole_count : PieceAt s i n true → replacements_in (first_at s i).piece ≡ 0
  whole_count p = kept_count (first_at s i).piece (sym p.1)

  pub broken_count : PieceAt s i n false → replacements_in (first_at s i).piece ≡ 1
  broken_count p = replaced_count (first_at s i).piece (sym p.1)

-- lengths
pub good_length : (n : ℕ) (l : List ℕ) → Good n l → length (utf8_text l) ≡ n + length (utf8_text (drop n l))
good_length n l g = ap length (good_text n l g) ∙ length-append (take n l) _ ∙ rw (length-take-le n l g.fits)

module _ (s : List ℕ) (i n : ℕ) (h : i < length s) where
  pub whole_next : PieceAt s i n true → length (utf8_text (drop i s)) ≡ n + length (utf8_text (drop (i + n) s))
  whole_next p = ap length (piece_text_lem s i n true h p) ∙ length-append (piece_text (first_at s i).piece) _ ∙ rw (whole_length s i n h p)

  pub broken_next : PieceAt s i n false → length (utf8_text (drop i s)) ≡ 3 + length (utf8_text (drop (i + n) s))
  broken_next p = ap length (piece_text_lem s i n false h p) ∙ length-append (piece_text (first_at s i).piece) _ ∙ rw (broken_length s i n p)

pub text_end : (s : List ℕ) (i : ℕ) → length s ≤ i → utf8_text (drop i s) ≡ []
unfolding utf8_text read_from pieces_text
text_end s i h = rw (drop_of_length-le s h)

pub count_end : (s : List ℕ) (i : ℕ) → length s ≤ i → replacements (utf8_pieces (drop i s)) ≡ 0
unfolding read_from replacements
count_end s i h = rw (drop_of_length-le s h)

-- ---- ASCII

ascii_one : (b : ℕ) (bs : List ℕ) → b < 0x80 → Good 1 (b ∷ bs)
ascii_one b bs h =
    let a = step_ascii (b ∷ bs) 0 h in
    good_at (b ∷ bs) 0 1 (omega arith) a.0 (sym a.1)

-- an ASCII character, and a run after it
pub good_first : (b : ℕ) (bs : List ℕ) (n : ℕ) → b < 0x80 → Good n bs → Good (suc n) (b ∷ bs)
good_first b bs n h g =
    let e : 1 + n ≡ suc n = omega arith in
    subst (λ (m : ℕ). Good m (b ∷ bs)) e (good_more 1 n (b ∷ bs) (ascii_one b bs h) g)

pub ascii_good : (n : ℕ) (l : List ℕ) → AsciiRun n l → Good n l
ascii_good zero l r = good_none l
ascii_good (suc n) [] r = let z : ⊥ = omega (arith, r.fits) in absurd z
ascii_good (suc n) (b ∷ bs) r =
    let k = run_first b bs n r in
    good_first b bs n k.0 (ascii_good n bs k.1)

-- the run of ASCII from i on, of what is lent as `&s[i..]`
pub ascii_good_at : (s : List ℕ) (i n : ℕ) → AsciiRun n (take (length s - i) (drop i s)) → Good n (drop i s)
ascii_good_at s i n r = ascii_good n (drop i s) (rw (rest s i) at r)

pub ascii_byte : (s : List ℕ) (i : ℕ) → i < length s → get_or s i 0 < 0x80 → utf8_text (drop i s) ≡ get_or s i 0 ∷ utf8_text (drop (i + 1) s)
ascii_byte s i h k = rw (next s i h) (good_text 1 (get_or s i 0 ∷ drop (i + 1) s) (ascii_one (get_or s i 0) (drop (i + 1) s) k))

-- ---- a run of ASCII that was copied

-- the first n bytes of the text were written, and they are those of a run of ASCII
pub ascii_written : (s d out : List ℕ) (n : ℕ) → AsciiRun n s → Writing (utf8_text s) d (utf8_text (drop n s)) out n → out ≡ overwritten (take n s) d
ascii_written s d out n r w =
    let k : length (take n s) ≡ n = length-take-le n s r.fits in
    w.buffer ∙ rw (good_text n s (ascii_good n s r), take_at (take n s) (utf8_text (drop n s)) n k, k)

-- ---- the bytes from i on, one after the other

module _ (s : List ℕ) (i : ℕ) where
  pub two_bytes : i + 2 ≤ length s → take 2 (drop i s) ≡ get_or s i 0 ∷ get_or s (i + 1) 0 ∷ []
  two_bytes h = rw (next s i (omega arith), next s (i + 1) (omega arith))

  pub three_bytes : i + 3 ≤ length s → take 3 (drop i s) ≡ get_or s i 0 ∷ get_or s (i + 1) 0 ∷ get_or s (i + 2) 0 ∷ []
  three_bytes h =
      let e : i + 2 ≡ i + 1 + 1 = omega arith in
      rw (e, next s i (omega arith), next s (i + 1) (omega arith), next s (i + 1 + 1) (omega arith))
