-- The text of bytes by CCSID and host release, and how many U+FFFD are put in for what is malformed: T1, T3 to T8, N4a, N10a, N10b. Assumes nothing.
use Rattle.std.specs.Prelude.{ℕ, ◌%◌, Bool, true, false, cond, ◌||◌, List, [], ◌∷◌, ◌++◌, eqb, ltb, length}
use Rattle.unicode_standard.specs.Unicode.{replacements, utf8_pieces, utf8_text, utf16_pieces, utf16_text}
use Rattle.buffer.specs.Buffer.{Converted}
use Rattle.unicode_standard.specs.Ascii.{all_ascii}
use Rattle.codepage.specs.CodePage.{byte_text, code_point819, code_point037}
use Rattle.conversion.specs.Hex.{hex_text}

-- T3 to T6 (the Rust: decode_character_bytes). ASCII is its own UTF-8
unfoldable pub character_text : ℕ → List ℕ → List ℕ
character_text ccsid s =
    cond (eqb ccsid 1208) (utf8_text s)
    (cond (eqb ccsid 819) (byte_text code_point819 s)
    (cond (eqb ccsid 37) (byte_text code_point037 s)
    (cond (eqb ccsid 500) (byte_text code_point037 s)
    (cond (all_ascii s) s (byte_text code_point037 s)))))

-- T7 (the Rust: decode_graphic_bytes)
unfoldable pub is_utf16 : ℕ → ℕ → Bool
is_utf16 ccsid count = cond (cond (eqb ccsid 1200) true (eqb ccsid 13488)) (eqb (count % 2) 0) false

unfoldable pub graphic_text : ℕ → List ℕ → List ℕ
graphic_text ccsid s = cond (is_utf16 ccsid (length s)) (utf16_text s) (character_text ccsid s)

-- N4a: with the text, one U+FFFD for each malformed part of UTF-8 and for each unpaired surrogate of UTF-16. In the other code pages nothing is malformed
abbrev pub from_utf8 : List ℕ → Converted
from_utf8 s = record { text_bytes = utf8_text s; replaced = replacements (utf8_pieces s) }

abbrev pub from_characters : ℕ → List ℕ → Converted
from_characters ccsid s = record { text_bytes = character_text ccsid s; replaced = cond (eqb ccsid 1208) (replacements (utf8_pieces s)) 0 }

abbrev pub from_graphics : ℕ → List ℕ → Converted
from_graphics ccsid s =
    record { text_bytes = graphic_text ccsid s; replaced = cond (is_utf16 ccsid (length s)) (replacements (utf16_pieces s)) (from_characters ccsid s).replaced }

-- N10a: the host releases. What stands below is never asked for another number: refusal 22 comes first
abbrev pub is_release : ℕ → Bool
is_release release = eqb release 2 || eqb release 3

-- N10b: from release 3 on a CCSID other than 1208 and 819 is code page 037, with no look at the bytes; before it, it is as above
unfoldable pub character_text3 : ℕ → List ℕ → List ℕ
character_text3 ccsid s = cond (eqb ccsid 1208) (utf8_text s) (cond (eqb ccsid 819) (byte_text code_point819 s) (byte_text code_point037 s))

abbrev pub characters_by : ℕ → ℕ → List ℕ → Converted
characters_by release ccsid s =
    cond (ltb release 3) (from_characters ccsid s) (record { text_bytes = character_text3 ccsid s; replaced = (from_characters ccsid s).replaced })

abbrev pub graphics_by : ℕ → ℕ → List ℕ → Converted
graphics_by release ccsid s = cond (ltb release 3 || is_utf16 ccsid (length s)) (from_graphics ccsid s) (characters_by release ccsid s)

-- `LOB locator 0x`, and `0x`
abbrev pub locator_mark : List ℕ
locator_mark = 0x4C ∷ 0x4F ∷ 0x42 ∷ 0x20 ∷ 0x6C ∷ 0x6F ∷ 0x63 ∷ 0x61 ∷ 0x74 ∷ 0x6F ∷ 0x72 ∷ 0x20 ∷ 0x30 ∷ 0x78 ∷ []

abbrev pub row_id_mark : List ℕ
row_id_mark = 0x30 ∷ 0x78 ∷ []

-- term: T8
unfoldable pub locator_text : List ℕ → List ℕ
locator_text s = locator_mark ++ hex_text s

unfoldable pub row_id_text : List ℕ → List ℕ
row_id_text s = row_id_mark ++ hex_text s
