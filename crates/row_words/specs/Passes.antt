-- For inner functions; no public promise rests on it. What each pass over the columns tells. Assumes nothing.
use Rattle.std.specs.Prelude.{ℕ, ◌+◌, ◌/◌, ◌%◌, ◌^◌, ◌≡◌, Bool, false, List, [], ◌∷◌, eqb, length, set, Option, Some, None, Result, Ok, Err}
use Rattle.types.specs.declared.ColumnDescriptor.{ColumnDescriptor}
use Rattle.types.specs.declared.ValuePlace.{ValuePlace}
use Rattle.rules.specs.Walk.{Cell, Walk, done, short}
use Rattle.rules.specs.Row.{any_dec_float, Decision, refuse, accept, row_texts, row_replaced}
use Rattle.rules.specs.Conversions.{conversions_of}
use Rattle.cell.specs.Cell.{is_number}
use Rattle.words.specs.Words.{type_named}
use Rattle.words.specs.Reading.{column_named}
use Rattle.words.specs.Values.{kind_word, number_word, length_word}
use Rattle.piece.specs.declared.Lacking.{Lacking}
use Rattle.row_words.specs.declared.Taken.{Taken}
use Rattle.row_words.specs.declared.RowError.{RowError}
use Rattle.row_words.specs.declared.RowError.TheVariants.{TooShort, TextTooShort}

-- whether a column is of type DecFloat, where words are columns'
abbrev pub checked_of : Option (List ColumnDescriptor) → Option Bool
checked_of (Some cs) = Some (any_dec_float cs)
checked_of None = None

-- the columns that words name, two words for each. Where read_columns reads columns, it reads these
unfoldable pub columns_named : List ℕ → List ColumnDescriptor
columns_named [] = []
columns_named (first ∷ []) = []
columns_named (first ∷ second ∷ words) = column_named first second ∷ columns_named words

-- ---- what a column's words say, without the column

abbrev pub is_nullable : ℕ → Bool
is_nullable first = eqb (first / 2 ^ 48 % 2) 1

-- the numbers that the type holds, as one
abbrev pub type_numbers : ℕ → ℕ
type_numbers first = first / 2 ^ 8 % 2 ^ 16

-- the type is none of numbers
abbrev pub NoNumber : ℕ → Type 0
NoNumber first = is_number (type_named (first % 2 ^ 8) (type_numbers first)) ≡ false

-- ---- words written

-- the words v with three others from word q on
abbrev pub words_set : List ℕ → ℕ → ℕ → ℕ → ℕ → List ℕ
words_set v q kind number len = set (set (set v q kind) (q + 1) number) (q + 2) len

-- with those of a value
abbrev pub three_set : List ℕ → ℕ → ValuePlace → List ℕ
three_set v q x = words_set v q (kind_word x) (number_word x.value) (length_word x.value)

-- how a walk ends
abbrev pub outline : Walk → Result ℕ Lacking
outline (done ps n) = Ok n
outline (short e a) = Err (record { expected = e; actual = a })

-- what an answer says of a decision, at a release
abbrev pub Says : ℕ → Result Taken RowError → Decision → Type 0
Says release (Ok t) d =
    (ps : List Cell) × ((d ≡ accept ps t.used) × ((t.written ≡ length (row_texts (conversions_of release) ps)) × (t.replaced ≡ row_replaced (conversions_of release) ps)))
Says release (Err (TooShort expected actual)) d = d ≡ refuse 8 (expected ∷ actual ∷ [])
Says release (Err (TextTooShort needed)) d = d ≡ refuse 9 (needed ∷ [])
