-- What the functions for C and Rust answer for descriptions and types, by what the two description calls and fixed_length answer. Assumes nothing.
use Rattle.std.specs.Prelude.{ℕ, ◌*◌, Bool, cond, List, ltb, length, Option, Some, None}
use Rattle.refusal.specs.Refusal.{Told, accepted, refused}
use Rattle.buffer.specs.Buffer.{overwritten}
use Rattle.types.specs.declared.Db2Type.{Db2Type}
use Rattle.types.specs.declared.Columns.{Columns}
use Rattle.types.specs.Places.{covered}
use Rattle.types.specs.FixedLength.{fixed_length}
use Rattle.qrydsc.specs.Qrydsc.{DescriptionTold}
use Rattle.words.specs.Words.{pack_columns}
use Rattle.vejupa.specs.Answers.{too_few_number, no_column_number}

-- the lent words w are fewer than two for each column
abbrev pub too_few : Columns → List ℕ → Bool
too_few c w = ltb (length w) (2 * c.count)

-- the refusal's number; else 101 where the lent words are too few, and 0
abbrev pub number_by : Told → Bool → ℕ
number_by (refused n vs) few = n
number_by accepted few = cond few too_few_number 0

-- the lent words w after the call, where t are the words of the columns: a refusal and 101 change none
abbrev pub words_by : Told → Bool → List ℕ → List ℕ → List ℕ
words_by (refused n vs) few t w = w
words_by accepted few t w = cond few w (overwritten t w)

abbrev pub description_number : DescriptionTold → List ℕ → ℕ
description_number d w = number_by d.outcome (too_few d.columns w)

abbrev pub description_words : DescriptionTold → List ℕ → List ℕ
description_words d w = words_by d.outcome (too_few d.columns w) (pack_columns (covered d.columns)) w

-- N6d: whether the description breaks off, as 1 and 0: 0 with a refusal, and with 101
abbrev pub broken_off_number : DescriptionTold → List ℕ → ℕ
broken_off_number d w = cond (too_few d.columns w) 0 (cond d.broken_off 1 0)

-- of the type that a word is read as: 102 where it is none; whether its values have a fixed length, as 1 and 0; and the length, or 0
abbrev pub type_number : Option Db2Type → ℕ
type_number (Some t) = 0
type_number None = no_column_number

abbrev pub flag_of : Option ℕ → ℕ
flag_of (Some n) = 1
flag_of None = 0

abbrev pub bytes_of : Option ℕ → ℕ
bytes_of (Some n) = n
bytes_of None = 0

abbrev pub length_of : Option Db2Type → Option ℕ
length_of (Some t) = fixed_length t
length_of None = None
