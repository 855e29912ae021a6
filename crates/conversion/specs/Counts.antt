-- What the number of U+FFFD that a conversion puts in says of the bytes, for every CCSID and release: N4a, N4b. Statements; proofs/Counts.antt proves them. No contract cites
-- this file. Assumes nothing.
use Rattle.std.specs.Prelude.{ℕ, ◌+◌, ◌≤◌, cond, List, ◌≡◌, eqb, length}
use Rattle.buffer.specs.Buffer.{Converted}
use Rattle.unicode_standard.specs.Unicode.{Piece, pieces_text, replacements, utf8_pieces, utf16_pieces}
use Rattle.unicode_standard.specs.Ascii.{all_ascii}
use Rattle.unicode_standard.specs.Laws.{replacement_characters}
use Rattle.codepage.specs.CodePage.{byte_pieces, code_point819, code_point037}
use Rattle.conversion.specs.Conversion.{is_utf16}

-- the pieces that bytes are read as at release 2, by CCSID; at another by ccsid_by of specs/Releases.antt
unfoldable pub character_pieces : ℕ → List ℕ → List Piece
character_pieces ccsid s =
    cond (eqb ccsid 1208) (utf8_pieces s)
    (cond (eqb ccsid 819) (byte_pieces code_point819 s)
    (cond (eqb ccsid 37) (byte_pieces code_point037 s)
    (cond (eqb ccsid 500) (byte_pieces code_point037 s)
    (cond (all_ascii s) (byte_pieces code_point819 s) (byte_pieces code_point037 s)))))

unfoldable pub graphic_pieces : ℕ → List ℕ → List Piece
graphic_pieces ccsid s = cond (is_utf16 ccsid (length s)) (utf16_pieces s) (character_pieces ccsid s)

-- x is made of the pieces ps of n bytes: it is their text; what is malformed among them is what was replaced, no more than there are bytes; and the U+FFFD
-- among the text's scalar values are those put in and those that the host sent, together
pub record Counts (x : Converted) (ps : List Piece) (n : ℕ) : Type 0 where
  pub text_of : x.text_bytes ≡ pieces_text ps
  pub put_in : x.replaced ≡ replacements ps
  pub at_most : x.replaced ≤ n
  pub together : replacement_characters (utf8_pieces x.text_bytes) ≡ x.replaced + replacement_characters ps
