-- The conversions of the row call (T1 to T9, N4a, N10b, P1 to P5, W5), and the row call with them: what its promise names. Assumes nothing.
use Rattle.std.specs.Prelude.{ℕ, cond, List, []}
use Rattle.types.specs.declared.Columns.{Columns}
use Rattle.numbers.specs.Number.{small_int_in, integer_in, big_int_in, real_in, double_in}
use Rattle.packed.specs.Packed.{decimal_text}
use Rattle.buffer.specs.Buffer.{Converted, unreplaced}
use Rattle.conversion.specs.Conversion.{from_characters, from_graphics, from_utf8, locator_text, row_id_text, is_release, characters_by, graphics_by}
use Rattle.unicode_standard.specs.Likely.{likely_text}
use Rattle.rules.specs.Meaning.{Conversions}
use Rattle.rules.specs.Row.{RowTold, refused_row, answer_with, text_with}

-- given those by CCSID, of characters and of graphics
abbrev pub conversions_by : (ℕ → List ℕ → Converted) → (ℕ → List ℕ → Converted) → Conversions
conversions_by by_characters by_graphics =
    record {
      read_small_int = small_int_in;
      read_integer = integer_in;
      read_big_int = big_int_in;
      read_real = real_in;
      read_double = double_in;
      packed = λ scale s. unreplaced (decimal_text scale s);
      characters = by_characters;
      graphics = by_graphics;
      inline_text = from_utf8;
      is_likely = likely_text;
      locator = λ s. unreplaced (locator_text s);
      row_identifier = λ s. unreplaced (row_id_text s);
    }

-- the Rust's, and those of a host release; release 2's are the Rust's
abbrev pub ported : Conversions
ported = conversions_by from_characters from_graphics

abbrev pub conversions_of : ℕ → Conversions
conversions_of release = conversions_by (characters_by release) (graphics_by release)

-- what the row call answers for a release, columns, an input s and a text buffer d, and what the text buffer then holds. Refusal 22 comes first (N10a)
unfoldable pub row_answer : ℕ → Columns → List ℕ → List ℕ → RowTold
row_answer release columns s d = cond (is_release release) (answer_with (conversions_of release) columns s d) (refused_row 22 [])

unfoldable pub row_text : ℕ → Columns → List ℕ → List ℕ → List ℕ
row_text release columns s d = cond (is_release release) (text_with (conversions_of release) columns s d) d
