-- The Unicode Standard's worked examples of section 3.9, and a few at the edges of its tables: what each sequence is read as. Assumes nothing.
use Rattle.std.specs.Prelude.{ℕ, Bool, true, false, ◌≡◌, refl, [], ◌∷◌, map}
use Rattle.unicode_standard.specs.Unicode.{scalar, malformed, is_scalar_value, utf8, piece_text, pieces_text, sequence_in, within, fit, scalar_from, first_by, first_of, read_from, utf8_pieces, utf8_text, utf16, units, pair_of, unit_of, utf16_pieces}
use Rattle.unicode_standard.specs.Likely.{is_control, is_tab_or_line_end, likely_piece, all_likely, likely_text}

-- `unfolding computed` opens what an example computes with
computed : ℕ → Bool
unfolding read_from first_of first_by sequence_in within fit scalar_from utf8_text pieces_text piece_text utf8 is_scalar_value units unit_of pair_of utf16 is_control is_tab_or_line_end likely_piece all_likely likely_text
computed n = true

-- Table 3-4, Examples of Unicode Encoding Forms: U+004D, U+0430, U+4E8C, U+10302
table_3_4 : utf8_pieces (0x4D ∷ 0xD0 ∷ 0xB0 ∷ 0xE4 ∷ 0xBA ∷ 0x8C ∷ 0xF0 ∷ 0x90 ∷ 0x8C ∷ 0x82 ∷ []) ≡ scalar 0x4D ∷ scalar 0x430 ∷ scalar 0x4E8C ∷ scalar 0x10302 ∷ []
unfolding computed
table_3_4 = refl

-- Table 3-4, each scalar value to its bytes, and to its UTF-16 code units
table_3_4_utf8 : map utf8 (0x4D ∷ 0x430 ∷ 0x4E8C ∷ 0x10302 ∷ []) ≡ (0x4D ∷ []) ∷ (0xD0 ∷ 0xB0 ∷ []) ∷ (0xE4 ∷ 0xBA ∷ 0x8C ∷ []) ∷ (0xF0 ∷ 0x90 ∷ 0x8C ∷ 0x82 ∷ []) ∷ []
unfolding computed
table_3_4_utf8 = refl

table_3_4_utf16 : map utf16 (0x4D ∷ 0x430 ∷ 0x4E8C ∷ 0x10302 ∷ []) ≡ (0x4D ∷ []) ∷ (0x430 ∷ []) ∷ (0x4E8C ∷ []) ∷ (0xD800 ∷ 0xDF02 ∷ []) ∷ []
unfolding computed
table_3_4_utf16 = refl

-- Table 3-4, the UTF-16 code units in big-endian bytes
table_3_4_utf16be : utf16_pieces (0x00 ∷ 0x4D ∷ 0x04 ∷ 0x30 ∷ 0x4E ∷ 0x8C ∷ 0xD8 ∷ 0x00 ∷ 0xDF ∷ 0x02 ∷ []) ≡ scalar 0x4D ∷ scalar 0x430 ∷ scalar 0x4E8C ∷ scalar 0x10302 ∷ []
unfolding computed
table_3_4_utf16be = refl

-- Table 3-8, U+FFFD for Non-Shortest Form Sequences
table_3_8 : utf8_pieces (0xC0 ∷ 0xAF ∷ 0xE0 ∷ 0x80 ∷ 0xBF ∷ 0xF0 ∷ 0x81 ∷ 0x82 ∷ 0x41 ∷ []) ≡ malformed ∷ malformed ∷ malformed ∷ malformed ∷ malformed ∷ malformed ∷ malformed ∷ malformed ∷ scalar 0x41 ∷ []
unfolding computed
table_3_8 = refl

-- Table 3-9, U+FFFD for Ill-Formed Sequences for Surrogates
table_3_9 : utf8_pieces (0xED ∷ 0xA0 ∷ 0x80 ∷ 0xED ∷ 0xBF ∷ 0xBF ∷ 0xED ∷ 0xAF ∷ 0x41 ∷ []) ≡ malformed ∷ malformed ∷ malformed ∷ malformed ∷ malformed ∷ malformed ∷ malformed ∷ malformed ∷ scalar 0x41 ∷ []
unfolding computed
table_3_9 = refl

-- Table 3-10, U+FFFD for Other Ill-Formed Sequences
table_3_10 : utf8_pieces (0xF4 ∷ 0x91 ∷ 0x92 ∷ 0x93 ∷ 0xFF ∷ 0x41 ∷ 0x80 ∷ 0xBF ∷ 0x42 ∷ []) ≡ malformed ∷ malformed ∷ malformed ∷ malformed ∷ malformed ∷ scalar 0x41 ∷ malformed ∷ malformed ∷ scalar 0x42 ∷ []
unfolding computed
table_3_10 = refl

-- Table 3-11, U+FFFD for Truncated Sequences; and its text, with EF BF BD for each U+FFFD
table_3_11 : utf8_pieces (0xE1 ∷ 0x80 ∷ 0xE2 ∷ 0xF0 ∷ 0x91 ∷ 0x92 ∷ 0xF1 ∷ 0xBF ∷ 0x41 ∷ []) ≡ malformed ∷ malformed ∷ malformed ∷ malformed ∷ scalar 0x41 ∷ []
unfolding computed
table_3_11 = refl

table_3_11_text : utf8_text (0xE1 ∷ 0x80 ∷ 0xE2 ∷ 0xF0 ∷ 0x91 ∷ 0x92 ∷ 0xF1 ∷ 0xBF ∷ 0x41 ∷ []) ≡ 0xEF ∷ 0xBF ∷ 0xBD ∷ 0xEF ∷ 0xBF ∷ 0xBD ∷ 0xEF ∷ 0xBF ∷ 0xBD ∷ 0xEF ∷ 0xBF ∷ 0xBD ∷ 0x41 ∷ []
unfolding computed
table_3_11_text = refl

-- D86: <41 C3 B1 42> is well-formed; in <41 C2 C3 B1 42> C2 alone is ill-formed
d86_well_formed : utf8_pieces (0x41 ∷ 0xC3 ∷ 0xB1 ∷ 0x42 ∷ []) ≡ scalar 0x41 ∷ scalar 0xF1 ∷ scalar 0x42 ∷ []
unfolding computed
d86_well_formed = refl

d86_ill_formed : utf8_pieces (0x41 ∷ 0xC2 ∷ 0xC3 ∷ 0xB1 ∷ 0x42 ∷ []) ≡ scalar 0x41 ∷ malformed ∷ scalar 0xF1 ∷ scalar 0x42 ∷ []
unfolding computed
d86_ill_formed = refl

-- "Constraints on Conversion Processes": <C2 41 42> and <F0 80 80 41>
constraints_two : utf8_pieces (0xC2 ∷ 0x41 ∷ 0x42 ∷ []) ≡ malformed ∷ scalar 0x41 ∷ scalar 0x42 ∷ []
unfolding computed
constraints_two = refl

constraints_four : utf8_pieces (0xF0 ∷ 0x80 ∷ 0x80 ∷ 0x41 ∷ []) ≡ malformed ∷ malformed ∷ malformed ∷ scalar 0x41 ∷ []
unfolding computed
constraints_four = refl

-- D93b at the end of the bytes: <E2 82> is one maximal subpart
d93b_end : utf8_pieces (0xE2 ∷ 0x82 ∷ []) ≡ malformed ∷ []
unfolding computed
d93b_end = refl

-- D76 at its edges: D7FF, D800, DFFF, E000, 10FFFF, 110000
scalar_values : map is_scalar_value (0xD7FF ∷ 0xD800 ∷ 0xDFFF ∷ 0xE000 ∷ 0x10FFFF ∷ 0x110000 ∷ []) ≡ true ∷ false ∷ false ∷ true ∷ true ∷ false ∷ []
unfolding computed
scalar_values = refl

-- Table 3-7 at its edges: U+D7FF, U+E000, U+10FFFF
table_3_7_edges : utf8_pieces (0xED ∷ 0x9F ∷ 0xBF ∷ 0xEE ∷ 0x80 ∷ 0x80 ∷ 0xF4 ∷ 0x8F ∷ 0xBF ∷ 0xBF ∷ []) ≡ scalar 0xD7FF ∷ scalar 0xE000 ∷ scalar 0x10FFFF ∷ []
unfolding computed
table_3_7_edges = refl

-- D91, unpaired surrogates: <DC00 0041>, <D800 0041>, and D800 at the end
unpaired : utf16_pieces (0xDC ∷ 0x00 ∷ 0x00 ∷ 0x41 ∷ 0xD8 ∷ 0x00 ∷ 0x00 ∷ 0x41 ∷ 0xD8 ∷ 0x00 ∷ []) ≡ malformed ∷ scalar 0x41 ∷ malformed ∷ scalar 0x41 ∷ malformed ∷ []
unfolding computed
unpaired = refl

-- Likely text: a line of text, an empty one; not 00, not U+0085, not a malformed part
likely : map likely_text ((0x41 ∷ 0x09 ∷ 0xC3 ∷ 0xA9 ∷ 0x0D ∷ 0x0A ∷ []) ∷ [] ∷ (0x41 ∷ 0x00 ∷ []) ∷ (0xC2 ∷ 0x85 ∷ []) ∷ (0x41 ∷ 0xC3 ∷ []) ∷ [])
    ≡ true ∷ true ∷ false ∷ false ∷ false ∷ []
unfolding computed
likely = refl
