-- Every text is well-formed UTF-8 (D86 of the Unicode Standard; the rules' T1), whatever the bytes, the CCSID and the release. Assumes nothing.
use Prim.Native.Nat.{ℕ, zero, suc, ◌+◌, ◌/◌, ◌%◌, ◌<◌}
use mathlib.Core.Bool.{Bool, true, false, cond}
use mathlib.Core.List.{List, [], ◌∷◌, ◌++◌}
use mathlib.Core.Path.{◌≡◌, refl, sym, subst}
use native.Mathlib.Omega.{arith}
use lib.Dec.{eqb, ltb}
use lib.ListN.{length}
use borrow.Author.Tests.{ltb-true, lt-ltb}
use Rattle.unicode_standard.specs.Unicode.{utf8, utf8_text, utf16_text}
use Rattle.unicode_standard.specs.Ascii.{all_ascii}
use Rattle.unicode_standard.specs.Laws.{WellFormed, AreBytes}
use Rattle.unicode_standard.proofs.Ranges.{both}
use Rattle.unicode_standard.proofs.Laws.{texts}
use Rattle.codepage.specs.CodePage.{byte_text, code_point819, code_point037}
use Rattle.codepage.proofs.WellFormed.{latin1_well_formed, ebcdic_well_formed}
use Rattle.conversion.specs.Hex.{hex_digit, hex_text}
use Rattle.buffer.specs.Buffer.{Converted}
use Rattle.conversion.specs.Conversion.{locator_mark, row_id_mark, is_utf16, character_text, graphic_text, characters_by, graphics_by, locator_text, row_id_text}
use Rattle.conversion.specs.Releases.{ccsid_by, graphic_ccsid_by}
use Rattle.conversion.proofs.Releases.{characters_as, graphics_as}

-- ---- ASCII

ascii_bytes : (s : List ℕ) → all_ascii s ≡ true → AreBytes s
unfolding all_ascii
ascii_bytes [] e i = omega arith
ascii_bytes (b ∷ s) e zero = omega (arith, ltb-true b 0x80 (both (ltb b 0x80) (all_ascii s) e).0)
ascii_bytes (b ∷ s) e (suc i) = ascii_bytes s (both (ltb b 0x80) (all_ascii s) e).1 i

pub ascii_well_formed : (s : List ℕ) → all_ascii s ≡ true → WellFormed utf8 s
ascii_well_formed s e = subst (WellFormed utf8) (texts.ascii_text s e) (texts.utf8_text_lem s (ascii_bytes s e))

pub ascii_append : (s t : List ℕ) → all_ascii s ≡ true → all_ascii t ≡ true → all_ascii (s ++ t) ≡ true
unfolding all_ascii
ascii_append [] t a b = b
ascii_append (x ∷ s) t a b =
    let c = both (ltb x 0x80) (all_ascii s) a in
    rw c.0 (ascii_append s t c.1 b)

-- ---- hexadecimal

digit_ascii : (n : ℕ) → n < 16 → ltb (hex_digit n) 0x80 ≡ true
unfolding hex_digit
digit_ascii n h = go (ltb n 10)
  where
    go : (x : Bool) → ltb (cond x (0x30 + n) (0x37 + n)) 0x80 ≡ true
    go true = lt-ltb (0x30 + n) 0x80 (omega arith)
    go false = lt-ltb (0x37 + n) 0x80 (omega arith)

hex_ascii : (s : List ℕ) → AreBytes s → all_ascii (hex_text s) ≡ true
unfolding hex_text all_ascii
hex_ascii [] h = refl
hex_ascii (b ∷ s) h = rw (digit_ascii (b / 16) (omega (arith, h 0)), digit_ascii (b % 16) (omega arith)) (hex_ascii s (λ i. h (suc i)))

-- ---- the texts

-- what holds of both texts holds of the one that a test picks
picked : (P : List ℕ → Type 0) (b : Bool) (x y : List ℕ) → (b ≡ true → P x) → P y → P (cond b x y)
picked P true x y f g = f refl
picked P false x y f g = g

module _ (s : List ℕ) (h : AreBytes s) where
  abbrev Fine : List ℕ → Type 0
  Fine t = WellFormed utf8 t

  characters_well_formed2 : (ccsid : ℕ) → Fine (character_text ccsid s)
  unfolding character_text
  characters_well_formed2 ccsid =
      picked Fine (eqb ccsid 1208) (utf8_text s) _ (λ e. texts.utf8_text_lem s h)
      (picked Fine (eqb ccsid 819) (byte_text code_point819 s) _ (λ e. latin1_well_formed s h)
      (picked Fine (eqb ccsid 37) (byte_text code_point037 s) _ (λ e. ebcdic_well_formed s h)
      (picked Fine (eqb ccsid 500) (byte_text code_point037 s) _ (λ e. ebcdic_well_formed s h)
      (picked Fine (all_ascii s) s _ (λ e. ascii_well_formed s e) (ebcdic_well_formed s h)))))

  graphics_well_formed2 : (ccsid : ℕ) → Fine (graphic_text ccsid s)
  unfolding graphic_text
  graphics_well_formed2 ccsid = picked Fine (is_utf16 ccsid (length s)) (utf16_text s) _ (λ e. texts.utf16_text_lem s h) (characters_well_formed2 ccsid)

  -- at every release
  pub characters_well_formed : (release ccsid : ℕ) → Fine (characters_by release ccsid s).text_bytes
  characters_well_formed release ccsid =
      subst (λ (x : Converted). Fine x.text_bytes) (sym (characters_as release ccsid s)) (characters_well_formed2 (ccsid_by release ccsid))

  pub graphics_well_formed : (release ccsid : ℕ) → Fine (graphics_by release ccsid s).text_bytes
  graphics_well_formed release ccsid =
      subst (λ (x : Converted). Fine x.text_bytes) (sym (graphics_as release ccsid s)) (graphics_well_formed2 (graphic_ccsid_by release ccsid (length s)))

  pub locator_well_formed : Fine (locator_text s)
  unfolding locator_text all_ascii
  locator_well_formed = ascii_well_formed (locator_mark ++ hex_text s) (ascii_append locator_mark (hex_text s) refl (hex_ascii s h))

  pub row_id_well_formed : Fine (row_id_text s)
  unfolding row_id_text all_ascii
  row_id_well_formed = ascii_well_formed (row_id_mark ++ hex_text s) (ascii_append row_id_mark (hex_text s) refl (hex_ascii s h))
