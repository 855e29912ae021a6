-- Laws of the UTF-16 definitions of specs/Unicode.antt, at a position of a byte sequence. Assumes nothing.
use Prim.Native.Nat.{ℕ, suc, ◌+◌, ◌*◌, ◌-◌, ◌≤◌, ◌<◌}
use mathlib.Core.Bool.{Bool, true, false}
use mathlib.Core.List.{List, [], ◌∷◌}
use mathlib.Core.Path.{◌≡◌, refl, ap, ◌∙◌}
use native.Mathlib.Omega.{arith}
use native.Mathlib.Numerals.{add-one, add-two}
use borrow.Author.Tests.{leb-true, leb-false}
use lib.Dec.{leb}
use lib.ListN.{length, drop, length-drop, length-append}
use lib.Seq.{drop-cons}
use Rattle.unicode_standard.specs.Unicode.{Piece, scalar, malformed, utf8, piece_text, pieces_text, replacements_in, replacements, within, read_from, units, high_surrogates, low_surrogates, pair_of, unit_of, utf16_pieces}
use Rattle.utf.specs.Utf16Code.{unit_at, Utf16Next}
use Rattle.unicode_standard.specs.Unicode.{utf16_text}
use Rattle.unicode_standard.proofs.Reading.{read_cons, read_most}
use Rattle.unicode_standard.proofs.ScalarBytes.{utf8_one, utf8_two, utf8_three, utf8_four}
use Rattle.utf.proofs.Utf8Laws.{past, short, inside}

-- two bytes are a unit
units_next : (s : List ℕ) (i : ℕ) → i + 1 < length s → units (drop i s) ≡ unit_at s i ∷ units (drop (i + 2) s)
unfolding units
units_next s i h =
    let k : suc i < length s = omega arith in
    rw (drop-cons s i 0 (omega arith), drop-cons s (suc i) 0 k, add-one i, add-two i)

-- fewer are none
few : (l : List ℕ) → length l ≤ 1 → units l ≡ []
unfolding units
few [] h = refl
few (a ∷ []) h = refl
few (a ∷ b ∷ l) h = let z : ⊥ = omega arith in absurd z

units_end : (s : List ℕ) (i : ℕ) → length s ≤ i + 1 → units (drop i s) ≡ []
units_end s i h = few (drop i s) (omega (arith, length-drop i s))

pieces_end : (s : List ℕ) (i : ℕ) → length s ≤ i + 1 → utf16_pieces (drop i s) ≡ []
unfolding read_from
pieces_end s i h = rw (units_end s i h)

pub utf16_end : (s : List ℕ) (i : ℕ) → length s ≤ i + 1 → utf16_text (drop i s) ≡ []
unfolding utf16_text pieces_text
utf16_end s i h = rw (pieces_end s i h)

pub count_end : (s : List ℕ) (i : ℕ) → length s ≤ i + 1 → replacements (utf16_pieces (drop i s)) ≡ 0
unfolding replacements
count_end s i h = rw (pieces_end s i h)

units_few : (l : List ℕ) → length (units l) ≤ length l
unfolding units
units_few [] = omega arith
units_few (a ∷ []) = omega arith
units_few (a ∷ b ∷ l) = omega (arith, units_few l)

-- no more surrogates are unpaired than there are bytes
pub utf16_few : (s : List ℕ) → replacements (utf16_pieces s) ≤ length s
utf16_few s = omega (arith, read_most unit_of 0 (units s), units_few s)

-- ---- what stands at i

module _ (s : List ℕ) (i : ℕ) (h : i + 1 < length s) where
  abbrev U : ℕ
  U = unit_at s i

  abbrev Us : List ℕ
  Us = units (drop (i + 2) s)

  at_unit : utf16_pieces (drop i s) ≡ (unit_of U Us).piece ∷ read_from unit_of 0 (drop (unit_of U Us).more Us)
  at_unit = rw (units_next s i h, read_cons unit_of U Us)

  -- n bytes that are read as the piece p, whose text is that of v
  read_as : (p : Piece) (v n : ℕ) → utf16_pieces (drop i s) ≡ p ∷ utf16_pieces (drop (i + n) s) → piece_text p ≡ utf8 v → i + n ≤ length s → 2 ≤ n → v < 0x110000 → Utf16Next s i v n (replacements_in p)
  unfolding utf16_text pieces_text replacements
  read_as p v n e t f m k = record {
    here = ap pieces_text e ∙ rw t;
    fits = f;
    some = m;
    scalar = k;
    part = ap replacements e;
  }

  -- one unit
  one_unit : (p : Piece) (v : ℕ) → unit_of U Us ≡ record { piece = p; more = 0 } → piece_text p ≡ utf8 v → v < 0x110000 → Utf16Next s i v 2 (replacements_in p)
  one_unit p v e t k = read_as p v 2 (at_unit ∙ rw e) t (omega arith) (omega arith) k

  module _ (u : ℕ) (q : u ≡ U) where
    plain : within u high_surrogates ≡ false → within u low_surrogates ≡ false → u < 0x110000 → Utf16Next s i u 2 0
    unfolding unit_of piece_text
    plain a b k = one_unit (scalar u) u (rw (← q, a, b)) refl k

    pub below_surrogates : u < 0xD800 → Utf16Next s i u 2 0
    below_surrogates k = plain (short u high_surrogates k) (short u low_surrogates (omega arith)) (omega arith)

    pub above_surrogates : 0xDFFF < u → u < 0x10000 → Utf16Next s i u 2 0
    above_surrogates k l = plain (past u high_surrogates (omega arith)) (past u low_surrogates k) (omega arith)

    pub low_alone : 0xDC00 ≤ u → u ≤ 0xDFFF → Utf16Next s i 0xFFFD 2 1
    unfolding unit_of piece_text
    low_alone k l = one_unit malformed 0xFFFD (rw (← q, past u high_surrogates k, inside u low_surrogates k l)) refl (omega arith)

    module _ (k : 0xD800 ≤ u) (l : u < 0xDC00) where
      is_high : within u high_surrogates ≡ true
      is_high = inside u high_surrogates k (omega arith)

      alone : pair_of u Us ≡ record { piece = malformed; more = 0 } → Utf16Next s i 0xFFFD 2 1
      unfolding unit_of piece_text
      alone e = one_unit malformed 0xFFFD (rw (← q, is_high, e)) refl (omega arith)

      pub high_last : length s ≤ i + 3 → Utf16Next s i 0xFFFD 2 1
      unfolding pair_of
      high_last m = alone (rw (units_end s (i + 2) (omega arith)))

      module _ (m : i + 3 < length s) (v : ℕ) (r : v ≡ unit_at s (i + 2)) where
        after : Us ≡ v ∷ units (drop (i + 4) s)
        after = let e : i + 2 + 2 ≡ i + 4 = omega arith in units_next s (i + 2) (omega arith) ∙ rw (r, e)

        pub high_below : v < 0xDC00 → Utf16Next s i 0xFFFD 2 1
        unfolding pair_of
        high_below x = alone (rw (after, short v low_surrogates x))

        pub high_above : 0xDFFF < v → Utf16Next s i 0xFFFD 2 1
        unfolding pair_of
        high_above x = alone (rw (after, past v low_surrogates x))

        pub pair : 0xDC00 ≤ v → v ≤ 0xDFFF → Utf16Next s i (0x10000 + (u - 0xD800) * 0x400 + (v - 0xDC00)) 4 0
        unfolding unit_of pair_of piece_text
        pair x y = let w : ℕ = 0x10000 + (u - 0xD800) * 0x400 + (v - 0xDC00) in read_as (scalar w) w 4 (at_unit ∙ rw (← q, is_high, after, inside v low_surrogates x y)) refl (omega arith) (omega arith) (omega arith)

-- ---- how many bytes of the text a unit stands for, where a high surrogate before a low one has one, and the low one three, as if it were alone

abbrev pub UnitLength : List ℕ → ℕ → ℕ → Type 0
UnitLength s i n = length (utf16_text (drop i s)) ≡ n + length (utf16_text (drop (i + 2) s))

by_value : (s : List ℕ) (i v n : ℕ) {r : ℕ} → Utf16Next s i v 2 r → length (utf8 v) ≡ n → UnitLength s i n
by_value s i v n t e = ap length t.here ∙ length-append (utf8 v) _ ∙ rw e

pub replaced_length : (s : List ℕ) (i : ℕ) → Utf16Next s i 0xFFFD 2 1 → UnitLength s i 3
unfolding utf8
replaced_length s i t = by_value s i 0xFFFD 3 t refl

module _ (s : List ℕ) (i : ℕ) (h : i + 1 < length s) (u : ℕ) (q : u ≡ unit_at s i) where
  pub one_byte : u < 0x80 → UnitLength s i 1
  one_byte k = by_value s i u 1 (below_surrogates s i h u q (omega arith)) (ap length (utf8_one u k))

  pub two_bytes : 0x80 ≤ u → u < 0x800 → UnitLength s i 2
  two_bytes k l = by_value s i u 2 (below_surrogates s i h u q (omega arith)) (ap length (utf8_two u k l))

  pub three_bytes : 0x800 ≤ u → u < 0xD800 → UnitLength s i 3
  three_bytes k l = by_value s i u 3 (below_surrogates s i h u q l) (ap length (utf8_three u k (omega arith)))

  -- a low surrogate that is read by itself, or a unit above the surrogates
  pub low_or_above : 0xDC00 ≤ u → u < 0x10000 → UnitLength s i 3
  low_or_above k l = go (leb u 0xDFFF) refl
    where
      go : (t : Bool) → leb u 0xDFFF ≡ t → UnitLength s i 3
      go true e = replaced_length s i (low_alone s i h u q k (leb-true u 0xDFFF e))
      go false e =
          let m : 0xDFFF < u = leb-false u 0xDFFF e in
          by_value s i u 3 (above_surrogates s i h u q m l) (ap length (utf8_three u (omega arith) l))

pub pair_length : (s : List ℕ) (i : ℕ) (h : i + 1 < length s) (u : ℕ) (q : u ≡ unit_at s i) → 0xD800 ≤ u → u < 0xDC00 → i + 3 < length s
    → (v : ℕ) → v ≡ unit_at s (i + 2) → 0xDC00 ≤ v → v ≤ 0xDFFF → UnitLength s i 1
pair_length s i h u q k l m v r x y =
    let w : ℕ = 0x10000 + (u - 0xD800) * 0x400 + (v - 0xDC00) in
    let t = pair s i h u q k l m v r x y in
    let e : i + 2 + 2 ≡ i + 4 = omega arith in
    let low : length (utf16_text (drop (i + 2) s)) ≡ 3 + length (utf16_text (drop (i + 4) s)) = rw e at (low_or_above s (i + 2) (omega arith) v r x (omega arith)) in
    omega (arith, ap length t.here, length-append (utf8 w) (utf16_text (drop (i + 4) s)), ap length (utf8_four w (omega arith)), low)
