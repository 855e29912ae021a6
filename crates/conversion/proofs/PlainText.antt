-- Texts that are the bytes they were read from, and how long a text can be. Assumes nothing.
use Prim.Native.Nat.{ℕ, ◌+◌, ◌*◌, ◌≤◌}
use mathlib.Core.List.{List, [], ◌∷◌, ◌++◌, append-nil}
use mathlib.Core.Path.{◌≡◌, refl, sym, ap, ◌∙◌}
use native.Mathlib.Omega.{arith}
use lib.ListN.{length, length-append}
use lib.Seq.{take-length, drop-length}
use Rattle.unicode_standard.specs.Unicode.{pieces_text, replacements, read_from, utf8_pieces, utf8_text}
use Rattle.unicode_standard.specs.Laws.{AreBytes}
use Rattle.utf.specs.Utf8Code.{Good}
use Rattle.utf.proofs.Utf8Runs.{good_text, good_count, count_end}
use Rattle.utf.proofs.Bound.{utf8_bound, utf16_bound}
use Rattle.codepage.proofs.Bound.{latin1_bound, ebcdic_bound}
use Rattle.conversion.specs.declared.Conversion.{Conversion}
use Rattle.conversion.specs.declared.Conversion.TheVariants.{Plain, Utf8, Latin1, Ebcdic037, Utf16, Locator, RowId}
use Rattle.conversion.specs.Hex.{hex_text}
use Rattle.conversion.specs.Conversion.{locator_mark, row_id_mark, locator_text, row_id_text}
use Rattle.conversion.specs.Picked.{text_in, replaced_in}
use Rattle.conversion.specs.Measure.{Measures}

-- ---- UTF-8 without a malformed part

empty : utf8_text [] ≡ []
unfolding utf8_text read_from pieces_text
empty = refl

whole : (s : List ℕ) (n : ℕ) → Good n s → n ≡ length s → utf8_text s ≡ s
whole s n g t = good_text n s g ∙ rw (t, take-length s, drop-length s, empty) (append-nil s)

none_replaced : (s : List ℕ) (n : ℕ) → Good n s → n ≡ length s → replacements (utf8_pieces s) ≡ 0
none_replaced s n g t = good_count n s g ∙ count_end s n (omega (arith, t))

pub utf8_plain : (s : List ℕ) (n : ℕ) → Good n s → n ≡ length s → Measures Utf8 s n Plain
unfolding text_in replaced_in
utf8_plain s n g t =
    let e = whole s n g t in
    record { counts = t ∙ ap length (sym e); alike = rw (e, none_replaced s n g t) }

pub as_it_is : (p : Conversion) (s : List ℕ) (n : ℕ) → n ≡ length (text_in p s) → Measures p s n p
as_it_is p s n e = record { counts = e; alike = refl }

-- ---- hexadecimal

pub hex_length : (s : List ℕ) → length (hex_text s) ≡ 2 * length s
unfolding hex_text
hex_length [] = refl
hex_length (b ∷ bs) = omega (arith, hex_length bs)

pub marked_length : (mark s : List ℕ) → length mark + 2 * length s ≡ length (mark ++ hex_text s)
marked_length mark s = omega (arith, hex_length s, length-append mark (hex_text s))

pub locator_length : (s : List ℕ) → 14 + 2 * length s ≡ length (locator_text s)
unfolding locator_text
locator_length s = omega (arith, hex_length s, length-append locator_mark (hex_text s))

pub row_id_length : (s : List ℕ) → 2 + 2 * length s ≡ length (row_id_text s)
unfolding row_id_text
row_id_length s = omega (arith, hex_length s, length-append row_id_mark (hex_text s))

-- ---- the longest text

pub text_bound : (p : Conversion) (s : List ℕ) → AreBytes s → length (text_in p s) ≤ 3 * length s + 14
unfolding text_in
text_bound Plain s h = omega arith
text_bound Utf8 s h = omega (arith, utf8_bound s)
text_bound Latin1 s h = omega (arith, latin1_bound s h)
text_bound Ebcdic037 s h = omega (arith, ebcdic_bound s h)
text_bound Utf16 s h = omega (arith, utf16_bound s)
text_bound Locator s h = omega (arith, locator_length s)
text_bound RowId s h = omega (arith, row_id_length s)
