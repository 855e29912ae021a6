-- For inner functions; no public promise rests on it. The conversion that is picked before a text is read, as the code's enum, and the text by it with
-- the number of U+FFFD put in.
-- proofs/Picks.antt: it is the text of specs/Conversion.antt. Assumes nothing.
use Rattle.std.specs.Prelude.{ℕ, cond, List, eqb, ltb, length, Option, Some, None}
use Rattle.unicode_standard.specs.Unicode.{replacements, utf8_pieces, utf8_text, utf16_pieces, utf16_text}
use Rattle.unicode_standard.specs.Ascii.{all_ascii}
use Rattle.buffer.specs.Buffer.{Converted}
use Rattle.codepage.specs.CodePage.{byte_text, code_point819, code_point037}
use Rattle.conversion.specs.Conversion.{is_utf16, locator_text, row_id_text}
use Rattle.conversion.specs.declared.Conversion.{Conversion}
use Rattle.conversion.specs.declared.Conversion.TheVariants.{Plain, Utf8, Latin1, Ebcdic037, Utf16, Locator, RowId}

-- `Plain` is for bytes that are their own UTF-8, as ASCII is
unfoldable pub text_in : Conversion → List ℕ → List ℕ
text_in Plain s = s
text_in Utf8 s = utf8_text s
text_in Latin1 s = byte_text code_point819 s
text_in Ebcdic037 s = byte_text code_point037 s
text_in Utf16 s = utf16_text s
text_in Locator s = locator_text s
text_in RowId s = row_id_text s

unfoldable pub replaced_in : Conversion → List ℕ → ℕ
replaced_in Plain s = 0
replaced_in Utf8 s = replacements (utf8_pieces s)
replaced_in Latin1 s = 0
replaced_in Ebcdic037 s = 0
replaced_in Utf16 s = replacements (utf16_pieces s)
replaced_in Locator s = 0
replaced_in RowId s = 0

abbrev pub converted_in : Conversion → List ℕ → Converted
converted_in p s = record { text_bytes = text_in p s; replaced = replaced_in p s }

-- the conversion of characters that a CCSID names, whatever the release and the bytes
unfoldable pub named : ℕ → Option Conversion
named ccsid = cond (eqb ccsid 1208) (Some Utf8) (cond (eqb ccsid 819) (Some Latin1) (cond (eqb ccsid 37) (Some Ebcdic037) (cond (eqb ccsid 500) (Some Ebcdic037) None)))

unfoldable pub character_conversion : ℕ → ℕ → List ℕ → Conversion
character_conversion release ccsid s =
    cond (eqb ccsid 1208) Utf8
    (cond (eqb ccsid 819) Latin1
    (cond (eqb ccsid 37) Ebcdic037
    (cond (eqb ccsid 500) Ebcdic037
    (cond (ltb release 3) (cond (all_ascii s) Plain Ebcdic037) Ebcdic037))))

unfoldable pub graphic_conversion : ℕ → ℕ → List ℕ → Conversion
graphic_conversion release ccsid s = cond (is_utf16 ccsid (length s)) Utf16 (character_conversion release ccsid s)
