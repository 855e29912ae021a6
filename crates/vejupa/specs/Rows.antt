-- What vejupa_raw_decode_row answers and leaves, by what decode_row decides for the columns that the words say, and what vejupa_raw_value_bytes shows. Assumes nothing.
use Rattle.std.specs.Prelude.{ℕ, ◌*◌, ◌/◌, cond, not, List, [], ltb, length, get_or, Option, Some, None}
use Rattle.types.specs.declared.ColumnDescriptor.{ColumnDescriptor}
use Rattle.types.specs.Places.{max_columns, column_list}
use Rattle.rules.specs.Row.{Decision, refuse, accept, row_texts, row_replaced, row_decision, text_after}
use Rattle.conversion.specs.Conversion.{is_release}
use Rattle.rules.specs.Conversions.{conversions_of}
use Rattle.rules.specs.Value.{value_bytes}
use Rattle.words.specs.Reading.{read_columns}
use Rattle.words.specs.ValueReading.{value_named}
use Rattle.row_words.specs.Rows.{values_after}
use Rattle.vejupa.specs.Answers.{too_few_number, no_column_number, value_with}

-- what is decided of a row call on lent words: an answer of the words alone (D1), or what decode_row decides
pub data OnWords : Type 0 where
  of_words : ℕ → OnWords
  decided : Decision → OnWords

abbrev pub decision_for : ℕ → Option (List ColumnDescriptor) → List ℕ → List ℕ → OnWords
decision_for release None s d = of_words no_column_number
decision_for release (Some cs) s d = decided (row_decision (conversions_of release) (column_list cs) s d)

-- for a release, the words w of columns, the row s, the lent words v of values and the text buffer d: refusals 22 and 3, then 101, then 102, then the other refusals
unfoldable pub words_decision : ℕ → List ℕ → List ℕ → List ℕ → List ℕ → OnWords
words_decision release w s v d =
    cond (not (is_release release)) (decided (refuse 22 []))
    (cond (ltb max_columns (length w / 2)) (decided (refuse 3 []))
    (cond (ltb (length v) (3 * (length w / 2))) (of_words too_few_number)
    (decision_for release (read_columns w) s d)))

-- the numbers that the call hands out: the one returned, the bytes used, the length of the texts (written, or needed with refusal 9), the U+FFFD put in, refusal 8's
pub record RowNumbers : Type 0 where
  pub returned : ℕ
  pub used : ℕ
  pub text_length : ℕ
  pub replaced : ℕ
  pub expected : ℕ
  pub actual : ℕ

abbrev pub row_numbers : ℕ → OnWords → RowNumbers
row_numbers release (of_words n) = record { returned = n; used = 0; text_length = 0; replaced = 0; expected = 0; actual = 0 }
row_numbers release (decided (refuse n vs)) = record { returned = n; used = 0; text_length = value_with 9 0 n vs; replaced = 0; expected = value_with 8 0 n vs; actual = value_with 8 1 n vs }
row_numbers release (decided (accept ps n)) =
    record { returned = 0; used = n; text_length = length (row_texts (conversions_of release) ps); replaced = row_replaced (conversions_of release) ps; expected = 0; actual = 0 }

-- what is left in the lent words v of values, and in the text buffer d
abbrev pub words_left : ℕ → OnWords → List ℕ → List ℕ
words_left release (of_words n) v = v
words_left release (decided e) v = values_after release e v

abbrev pub text_left : ℕ → OnWords → List ℕ → List ℕ
text_left release (of_words n) d = d
text_left release (decided e) d = text_after (conversions_of release) e d

-- the bytes of the value that the first three of the words w name, with the row s and the text buffer d; none where the words are fewer
unfoldable pub words_bytes : List ℕ → List ℕ → List ℕ → List ℕ
words_bytes w s d = cond (ltb (length w) 3) [] (value_bytes (value_named (get_or w 0 0) (get_or w 1 0) (get_or w 2 0)).value s d)
