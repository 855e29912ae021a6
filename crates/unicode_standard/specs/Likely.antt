-- Likely text: T9. Assumes nothing.
use Rattle.std.specs.Prelude.{ℕ, Bool, true, false, cond, List, [], ◌∷◌, leb, ltb, eqb}
use Rattle.unicode_standard.specs.Unicode.{Piece, scalar, malformed, utf8_pieces}

-- T9's control characters. They are the Standard's control codes, General_Category Cc
unfoldable pub is_control : ℕ → Bool
is_control v = cond (ltb v 0x20) true (cond (leb 0x7F v) (ltb v 0xA0) false)

-- tab, line feed, carriage return
unfoldable pub is_tab_or_line_end : ℕ → Bool
is_tab_or_line_end v = cond (eqb v 0x9) true (cond (eqb v 0xA) true (eqb v 0xD))

-- a malformed part makes the bytes no well-formed UTF-8
unfoldable pub likely_piece : Piece → Bool
likely_piece (scalar v) = cond (is_control v) (is_tab_or_line_end v) true
likely_piece malformed = false

unfoldable pub all_likely : List Piece → Bool
all_likely [] = true
all_likely (p ∷ ps) = cond (likely_piece p) (all_likely ps) false

-- term: T9
unfoldable pub likely_text : List ℕ → Bool
likely_text s = all_likely (utf8_pieces s)
