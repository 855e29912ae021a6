-- The laws of specs/Counts.antt: for every CCSID and release text and number come of one list of pieces. Assumes nothing.
use Prim.Native.Nat.{ℕ, suc, ◌<◌}
use mathlib.Core.Bool.{Bool, true, false, cond}
use mathlib.Core.List.{List, [], ◌∷◌}
use mathlib.Core.Logic.{inl}
use mathlib.Core.Path.{◌≡◌, refl, sym, ap, subst, ◌∙◌}
use native.Mathlib.Omega.{arith}
use borrow.Author.Tests.{ltb-true}
use lib.Dec.{eqb, ltb}
use lib.ListN.{length, get_or}
use Rattle.unicode_standard.specs.Unicode.{Piece, piece_text, pieces_text, replacements, utf8_pieces, utf8_text, utf16_pieces, utf16_text}
use Rattle.unicode_standard.specs.Ascii.{all_ascii}
use Rattle.unicode_standard.specs.Laws.{AreBytes, replacement_characters}
use Rattle.unicode_standard.proofs.Forms.{Scalars}
use Rattle.unicode_standard.proofs.Laws.{texts, text_counted}
use Rattle.unicode_standard.proofs.Ranges.{is_scalar_lem, both}
use Rattle.unicode_standard.proofs.ScalarBytes.{utf8_one}
use Rattle.codepage.specs.CodePage.{byte_pieces, byte_text, code_point819, code_point037}
use Rattle.codepage.specs.Small.{code_point_small}
use Rattle.conversion.specs.Conversion.{is_utf16, character_text, graphic_text, from_characters, from_graphics, characters_by, graphics_by}
use Rattle.buffer.specs.Buffer.{Converted}
use Rattle.conversion.specs.Releases.{ccsid_by, graphic_ccsid_by}
use Rattle.conversion.specs.Counts.{character_pieces, graphic_pieces, Counts}
use Rattle.conversion.proofs.Releases.{characters_as, graphics_as}

-- ---- a byte is a code point: nothing is malformed

byte_none : (f : ℕ → ℕ) (s : List ℕ) → replacements (byte_pieces f s) ≡ 0
unfolding byte_pieces replacements
byte_none f [] = refl
byte_none f (b ∷ s) = omega (arith, byte_none f s)

byte_scalars : (f : ℕ → ℕ) (s : List ℕ) → ((i : ℕ) → f (get_or s i 0) < 0x100) → Scalars (byte_pieces f s)
unfolding byte_pieces
byte_scalars f [] h = tt
byte_scalars f (b ∷ s) h = (is_scalar_lem (f b) (inl (omega (arith, h 0))), byte_scalars f s (λ i. h (suc i)))

-- ASCII is its own text
ascii_pieces : (s : List ℕ) → all_ascii s ≡ true → s ≡ byte_text code_point819 s
unfolding all_ascii byte_text byte_pieces pieces_text piece_text
ascii_pieces [] e = refl
ascii_pieces (b ∷ s) e =
    let h = both (ltb b 0x80) (all_ascii s) e in
    rw (utf8_one b (ltb-true b 0x80 h.0)) (ap (λ (t : List ℕ). b ∷ t) (ascii_pieces s h.1))

module _ (s : List ℕ) (h : AreBytes s) where
  of_bytes : (f : ℕ → ℕ) → ((i : ℕ) → f (get_or s i 0) < 0x100) → {t : List ℕ} → t ≡ byte_text f s → Counts (record { text_bytes = t; replaced = 0 }) (byte_pieces f s) (length s)
  unfolding byte_text
  of_bytes f small e = record {
    text_of = e;
    put_in = sym (byte_none f s);
    at_most = omega arith;
    together = ap (λ (t : List ℕ). replacement_characters (utf8_pieces t)) e ∙ text_counted (byte_pieces f s) (byte_scalars f s small) ∙ rw (byte_none f s);
  }

  small037 : (i : ℕ) → code_point037 (get_or s i 0) < 0x100
  small037 i = code_point_small (get_or s i 0) (h i)

  -- what a test picks of text, number and pieces
  tested : (b : Bool) {t u : List ℕ} {m n : ℕ} {ps qs : List Piece} → (b ≡ true → Counts (record { text_bytes = t; replaced = m }) ps (length s)) → Counts (record { text_bytes = u; replaced = n }) qs (length s)
      → Counts (record { text_bytes = cond b t u; replaced = cond b m n }) (cond b ps qs) (length s)
  tested true x y = x refl
  tested false x y = y

  -- the same where the number is the same
  alike : (b : Bool) {t u : List ℕ} {n : ℕ} {ps qs : List Piece} → (b ≡ true → Counts (record { text_bytes = t; replaced = n }) ps (length s)) → Counts (record { text_bytes = u; replaced = n }) qs (length s)
      → Counts (record { text_bytes = cond b t u; replaced = n }) (cond b ps qs) (length s)
  alike true x y = x refl
  alike false x y = y

  of_utf8 : Counts (record { text_bytes = utf8_text s; replaced = replacements (utf8_pieces s) }) (utf8_pieces s) (length s)
  unfolding utf8_text
  of_utf8 = record { text_of = refl; put_in = refl; at_most = texts.utf8_most s; together = texts.utf8_counted s h }

  of_utf16 : Counts (record { text_bytes = utf16_text s; replaced = replacements (utf16_pieces s) }) (utf16_pieces s) (length s)
  unfolding utf16_text
  of_utf16 = record { text_of = refl; put_in = refl; at_most = omega (arith, texts.utf16_most s); together = texts.utf16_counted s h }

  characters_counted2 : (ccsid : ℕ) → Counts (from_characters ccsid s) (character_pieces ccsid s) (length s)
  unfolding character_text character_pieces
  characters_counted2 ccsid =
      tested (eqb ccsid 1208) (λ e. of_utf8)
      (alike (eqb ccsid 819) (λ e. of_bytes code_point819 h refl)
      (alike (eqb ccsid 37) (λ e. of_bytes code_point037 small037 refl)
      (alike (eqb ccsid 500) (λ e. of_bytes code_point037 small037 refl)
      (alike (all_ascii s) (λ e. of_bytes code_point819 h (ascii_pieces s e)) (of_bytes code_point037 small037 refl)))))

  graphics_counted2 : (ccsid : ℕ) → Counts (from_graphics ccsid s) (graphic_pieces ccsid s) (length s)
  unfolding graphic_text graphic_pieces
  graphics_counted2 ccsid = tested (is_utf16 ccsid (length s)) (λ e. of_utf16) (characters_counted2 ccsid)

  -- at every release: by the CCSID that release 2 would have for it
  pub characters_counted : (release ccsid : ℕ) → Counts (characters_by release ccsid s) (character_pieces (ccsid_by release ccsid) s) (length s)
  characters_counted release ccsid = subst (λ (x : Converted). Counts x (character_pieces (ccsid_by release ccsid) s) (length s)) (sym (characters_as release ccsid s)) (characters_counted2 (ccsid_by release ccsid))

  pub graphics_counted : (release ccsid : ℕ) → Counts (graphics_by release ccsid s) (graphic_pieces (graphic_ccsid_by release ccsid (length s)) s) (length s)
  graphics_counted release ccsid =
      subst (λ (x : Converted). Counts x (graphic_pieces (graphic_ccsid_by release ccsid (length s)) s) (length s)) (sym (graphics_as release ccsid s))
      (graphics_counted2 (graphic_ccsid_by release ccsid (length s)))
