-- A UTF-8 text written part by part, where bytes behind a part may be written over by the next. Assumes nothing.
--     wrote_none    nothing is written yet
--     wrote_part    the first part was written, and perhaps more than it
--     wrote_lent    the next part was written into the rest of the buffer, as `&s[i..]` and `&mut out[o..]` are lent
--     wrote_end     all is written
use Prim.Native.Nat.{ℕ, zero, suc, ◌+◌, ◌-◌, ◌≤◌, ◌<◌}
use mathlib.Core.Bool.{Bool, true, false, cond, ◌||◌}
use mathlib.Core.List.{List, [], ◌∷◌, ◌++◌}
use mathlib.Core.Option.{Option, none, some}
use mathlib.Core.Path.{◌≡◌, refl, sym, ap, ◌∙◌}
use native.Mathlib.Omega.{arith}
use borrow.Author.Tests.{eqb-false, leb-true}
use lib.Dec.{leb, eqb}
use lib.ListN.{length, take, drop, get_or, length-append, length-drop}
use lib.Seq.{take-append-le, drop-append-add, take_at, drop_at, drop-drop, length-take-le, take-take}
use Rattle.buffer.specs.Buffer.{overwritten}
use Rattle.buffer.proofs.Filling.{start, fits, fits_rest, wrote_text, wrote_filling, all, end}
use Rattle.unicode_standard.specs.Unicode.{Piece, scalar, malformed, utf8, piece_text, pieces_text, Range, range, Sequence, within, fit, scalar_from, first_by, first_of, sequence_in, table_3_7, read_from, replacements_in, replacements, utf8_pieces, utf8_text}
use Rattle.unicode_standard.proofs.Ranges.{never, inside}
use Rattle.unicode_standard.proofs.Reading.{read_most}
use Rattle.unicode_standard.proofs.Utf8Bytes.{first_text}
use Rattle.utf.specs.Utf8Code.{is_scalar, first_at, PieceAt, Good}
use Rattle.utf.specs.Ascii.{AsciiRun}
use Rattle.utf.proofs.AsciiLaws.{rest, rest_length, run_longer}
use Rattle.utf.proofs.Utf8Laws.{step_none}
use Rattle.utf.proofs.Utf8Runs.{ascii_good, text_end, count_end, more_length, good_text, good_count, piece_text_lem, piece_count, piece_fits}
use Rattle.utf.specs.Lossy.{Wrote}

pub wrote_none : (s d : List ℕ) → length (utf8_text s) ≤ length d → Wrote s d d 0 0 0
wrote_none s d h = record { fits = omega arith; filling = start (utf8_text s) d h; parts = omega arith }

-- u was written at the beginning: its first k bytes are those of the text, and are read from n bytes
module _ (s d u out : List ℕ) (n k : ℕ) (h : length (utf8_text s) ≤ length d) (most : length u ≤ length (utf8_text s)) (part : k ≤ length u) (q : out ≡ overwritten u d) where
  wrote_part : n ≤ length s → take k u ≡ take k (utf8_text s) → drop k (utf8_text s) ≡ utf8_text (drop n s) → replacements (utf8_pieces s) ≡ replacements (utf8_pieces (drop n s)) → Wrote s d out n k 0
  wrote_part f e l z₀ =
      let z : length u + (length (utf8_text s) - length u) ≡ length (utf8_text s) = omega arith in
      record {
        fits = f;
        filling = record {
          room = h;
          before = omega arith;
          left = l;
          long = rw q (length-append u (drop (length u) d) ∙ omega (arith, length-drop (length u) d));
          front = rw q (take-append-le k u (drop (length u) d) part ∙ e);
          back =
              rw q (ap (λ (m : ℕ). drop m (u ++ drop (length u) d)) (sym z) ∙ drop-append-add u (drop (length u) d) (length (utf8_text s) - length u)
              ∙ drop-drop (length (utf8_text s) - length u) (length u) d ∙ ap (λ (m : ℕ). drop m d) z);
        };
        parts = omega (arith, z₀);
      }

module _ (s d out : List ℕ) (i o r : ℕ) (w : Wrote s d out i o r) where
  pub wrote_fits : o + length (utf8_text (drop i s)) ≤ length out
  wrote_fits = fits w.filling

  -- what is lent of the buffer has room for what is left of the text
  pub wrote_room : length (utf8_text (take (length s - i) (drop i s))) ≤ length (take (length out - o) (drop o out))
  wrote_room = rw (rest s i) (omega (arith, rest_length out o, wrote_fits))

  pub wrote_lent : (ys : List ℕ) (n m q : ℕ) → Wrote (take (length s - i) (drop i s)) (take (length out - o) (drop o out)) ys n m q
      → Wrote s d (take o out ++ (ys ++ drop (length out - o) (drop o out))) (i + n) (o + m) (r + q)
  wrote_lent ys n m q v = record {
    fits = omega (arith, w.fits, v.fits, rest_length s i);
    filling = wrote_filling w.filling (rw (rest s i, drop-drop n i s) at v.filling);
    parts = let e : replacements (utf8_pieces (drop i s)) ≡ q + replacements (utf8_pieces (drop (i + n) s)) = rw (rest s i, drop-drop n i s) at v.parts in omega (arith, w.parts, e);
  }

  pub wrote_end : length s ≤ i → (o ≡ length (utf8_text s)) × ((out ≡ overwritten (utf8_text s) d) × (r ≡ replacements (utf8_pieces s)))
  wrote_end k = let e = text_end s i k in (all w.filling e, (end w.filling e, omega (arith, w.parts, count_end s i k)))

  -- no more parts were replaced than there are bytes
  pub wrote_few : r ≤ length s
  wrote_few = omega (arith, w.parts, read_most first_of 0 s)

-- ---- a text is at least as long as what it is read from

fit_most : (rs : List Range) (bs : List ℕ) → fit rs bs ≤ length rs
unfolding fit
fit_most [] bs = omega arith
fit_most (r ∷ rs) [] = omega arith
fit_most (r ∷ rs) (b ∷ bs) = go (within b r) (fit_most rs bs)
  where
    go : (t : Bool) → fit rs bs ≤ length rs → cond t (suc (fit rs bs)) zero ≤ suc (length rs)
    go true h = omega arith
    go false h = omega arith

-- no row has more than three bytes after the first
abbrev Short : List Sequence → Type 0
Short [] = Unit {0}
Short (r ∷ rs) = (length r.trails ≤ 3) × Short rs

short_rows : Short table_3_7
short_rows = (omega arith, (omega arith, (omega arith, (omega arith, (omega arith, (omega arith, (omega arith, (omega arith, (omega arith, tt)))))))))

row_short : (rs : List Sequence) (b : ℕ) (r : Sequence) → Short rs → sequence_in rs b ≡ some r → length r.trails ≤ 3
unfolding sequence_in
row_short [] b r h e = let z : ◌≡◌ {A = ℕ} 0 1 = cc in let o : ⊥ = omega arith in absurd o
row_short (q ∷ rs) b r h e = go (within b q.first) refl (row_short rs b r h.1)
  where
    go : (t : Bool) → within b q.first ≡ t → (sequence_in rs b ≡ some r → length r.trails ≤ 3) → length r.trails ≤ 3
    go true k rec =
        let x : some q ≡ some r = rw k at e in
        let y : q ≡ r = cc in
        rw (← y) h.0
    go false k rec = rec (rw k at e)

-- a malformed part has three bytes at most
few : (o : Option Sequence) (b : ℕ) (bs : List ℕ) → ((r : Sequence) → o ≡ some r → length r.trails ≤ 3) → is_scalar (first_by o b bs).piece ≡ false → (first_by o b bs).more ≤ 2
unfolding first_by
few none b bs h e = omega arith
few (some r) b bs h e = go (eqb (fit r.trails bs) (length r.trails)) refl e
  where
    go : (t : Bool) → eqb (fit r.trails bs) (length r.trails) ≡ t → is_scalar (cond t (scalar (scalar_from (b - r.base) (take (fit r.trails bs) bs))) malformed) ≡ false → fit r.trails bs ≤ 2
    go true q k = never (sym k)
    go false q k = omega (arith, eqb-false (fit r.trails bs) (length r.trails) q, fit_most r.trails bs, h r refl)

replacement_length : length (utf8 0xFFFD) ≡ 3
unfolding utf8
replacement_length = refl

part_short : (b : ℕ) (bs : List ℕ) → is_scalar (first_of b bs).piece ≡ false → (first_of b bs).more ≤ 2
unfolding first_of
part_short b bs q = few (sequence_in table_3_7 b) b bs (λ r k. row_short table_3_7 b r short_rows k) q

piece_long : (b : ℕ) (bs : List ℕ) (p : Piece) → (first_of b bs).piece ≡ p → suc (first_of b bs).more ≤ length (piece_text p)
unfolding piece_text
piece_long b bs (scalar v) e = omega (arith, ap length (first_text b bs v e), length-take-le (first_of b bs).more bs (more_length b bs))
piece_long b bs malformed e = omega (arith, part_short b bs (ap is_scalar e), replacement_length)

read_least : (k : ℕ) (s : List ℕ) → length s ≤ k + length (pieces_text (read_from first_of k s))
unfolding read_from pieces_text
read_least k [] = omega arith
read_least zero (u ∷ us) =
    let m : ℕ = (first_of u us).more in
    let q : length (pieces_text (read_from first_of 0 (u ∷ us))) ≡ length (piece_text (first_of u us).piece) + length (pieces_text (read_from first_of m us)) = length-append (piece_text (first_of u us).piece) (pieces_text (read_from first_of m us)) in
    omega (arith, piece_long u us _ refl, read_least m us)
read_least (suc k) (u ∷ us) = omega (arith, read_least k us)

pub text_least : (s : List ℕ) → length s ≤ length (utf8_text s)
unfolding utf8_text
text_least s = omega (arith, read_least 0 s)

-- ---- m bytes were copied, of which the first k are well-formed

module _ (s d ys : List ℕ) (h : length (utf8_text s) ≤ length d) (m k : ℕ) (f : m ≤ length s) (l : k ≤ m) (r : Good k s) (q : ys ≡ overwritten (take m s) d) where
  pub copied : Wrote s d ys k k 0
  copied =
      let t : utf8_text s ≡ take k s ++ utf8_text (drop k s) = good_text k s r in
      let z : length (take k s) ≡ k = length-take-le k s r.fits in
      let y : length (take m s) ≡ m = length-take-le m s f in
      wrote_part s d (take m s) ys k k h (omega (arith, text_least s)) (omega arith) q r.fits
      (take-take k m s l ∙ sym (rw t (take_at (take k s) (utf8_text (drop k s)) k z)))
      (rw t (drop_at (take k s) (utf8_text (drop k s)) k z)) (good_count k s r)

-- the same into the rest of the buffer, as `&s[i..]` and `&mut out[o..]` are lent
module _ (s d out : List ℕ) (i o r : ℕ) (w : Wrote s d out i o r) (m : ℕ) (f : i + m ≤ length s) where
  pub copy_room : m ≤ length (take (length out - o) (drop o out))
  copy_room = omega (arith, wrote_room s d out i o r w, text_least (take (length s - i) (drop i s)), rest_length s i)

  pub copied_lent : (ys : List ℕ) (k : ℕ) → k ≤ m → Good k (take (length s - i) (drop i s)) → ys ≡ overwritten (take m (take (length s - i) (drop i s))) (take (length out - o) (drop o out))
      → Wrote s d (take o out ++ (ys ++ drop (length out - o) (drop o out))) (i + k) (o + k) r
  copied_lent ys k l g q =
      let v = wrote_lent s d out i o r w ys k k 0 (copied (take (length s - i) (drop i s)) (take (length out - o) (drop o out)) ys (wrote_room s d out i o r w) m k (omega (arith, rest_length s i)) l g q) in
      record { fits = v.fits; filling = v.filling; parts = omega (arith, v.parts) }

  -- of a chunk
  pub copied_chunk : (block more : List ℕ) → drop i s ≡ block ++ more → length block ≡ m → (ys : List ℕ) → ys ≡ overwritten (take m block) (take (length out - o) (drop o out)) → (k : ℕ) → k ≤ m → AsciiRun k block
      → Wrote s d (take o out ++ (ys ++ drop (length out - o) (drop o out))) (i + k) (o + k) r
  copied_chunk block more e z ys q k l a =
      let front : take m (take (length s - i) (drop i s)) ≡ take m block = rw (rest s i, e) (take-append-le m block more (omega arith)) in
      let run : AsciiRun k (take (length s - i) (drop i s)) = rw (rest s i, e) (run_longer k block more a) in
      copied_lent ys k l (ascii_good k _ run) (rw front q)

-- ---- the piece at i was written into the rest of the buffer

module _ (s d out : List ℕ) (i o r : ℕ) (w : Wrote s d out i o r) (n : ℕ) (ok : Bool) (l : i < length s) (p : PieceAt s i n ok) where
  abbrev P : List ℕ
  P = piece_text (first_at s i).piece

  pub piece_room : length P ≤ length (take (length out - o) (drop o out))
  piece_room = fits_rest w.filling P (utf8_text (drop (i + n) s)) (piece_text_lem s i n ok l p) refl

  pub piece_wrote : (ys : List ℕ) → ys ≡ overwritten P (take (length out - o) (drop o out)) → (m : ℕ) → length P ≡ m → (k : ℕ) → replacements_in (first_at s i).piece ≡ k
      → Wrote s d (take o out ++ (ys ++ drop (length out - o) (drop o out))) (i + n) (o + m) (r + k)
  piece_wrote ys q m z k e = record {
    fits = piece_fits s i n ok l p;
    filling = wrote_text w.filling P (utf8_text (drop (i + n) s)) (piece_text_lem s i n ok l p) ys q m (sym z);
    parts = omega (arith, w.parts, piece_count s i n ok l p, e);
  }

-- ---- a byte that no sequence begins with

pub none_begins : (b : ℕ) (x : Bool) → x ≡ within b (range 0x80 0xC1) → (x || leb 0xF5 b) ≡ true → (s : List ℕ) (i : ℕ) → get_or s i 0 ≡ b → PieceAt s i 1 false
none_begins b true q e s i z = let k = inside b (range 0x80 0xC1) (sym q) in step_none s i 1 (omega arith)
none_begins b false q e s i z = let k = leb-true 0xF5 b e in step_none s i 9 (omega arith)
