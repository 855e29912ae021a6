-- What holds of every answer, and of every accepted one: T1, W8, W10, H1, H5, N4c. Statements about a row call, given as in specs/Demand3.antt. Assumes nothing.
use Rattle.std.specs.Prelude.{ℕ, ◌+◌, ◌≤◌, ◌<◌, ◌≡◌, List, length, get_or, take}
use Rattle.refusal.specs.Refusal.{accepted}
use Rattle.unicode_standard.specs.Unicode.{utf8, utf8_pieces}
use Rattle.unicode_standard.specs.Laws.{WellFormed, AreBytes, replacement_characters}
use Rattle.types.specs.declared.Columns.{Columns}
use Rattle.types.specs.Places.{max_columns, blank_column, blank_value, covered}
use Rattle.types.specs.Held.{Held, bits, in_row, in_text, held}
use Rattle.rules.specs.Value.{bytes_at, texts_together}
use Rattle.rules.specs.Row.{RowTold}
use Rattle.rules.specs.Sorts.{Allows}

-- a value's place lies in the row s, or in the text buffer d
abbrev pub Fits : Held → List ℕ → List ℕ → Type 0
Fits (bits b) s d = Unit {0}
Fits (in_row p) s d = p.start + p.len ≤ length s
Fits (in_text p) s d = p.start + p.len ≤ length d

-- a value's text, where it has one, is well-formed UTF-8 in the text buffer d
abbrev pub HoldsUtf8 : Held → List ℕ → Type 0
HoldsUtf8 (bits b) d = Unit {0}
HoldsUtf8 (in_row p) d = Unit {0}
HoldsUtf8 (in_text p) d = WellFormed utf8 (bytes_at p d)

module _ (answer : Columns → List ℕ → List ℕ → RowTold) (after : Columns → List ℕ → List ℕ → List ℕ) where
  -- an answer has as many value places as a list has places for columns
  abbrev pub AllPlaces : Type 0
  AllPlaces = (columns : Columns) (s d : List ℕ) → length (answer columns s d).places ≡ max_columns

  -- the text buffer stays as long as it was
  abbrev pub SameLength : Type 0
  SameLength = (columns : Columns) (s d : List ℕ) → length (after columns s d) ≡ length d

  -- the bytes used are bytes of the input (of a refusal: none, by refused_row)
  abbrev pub UsedFits : Type 0
  UsedFits = (columns : Columns) (s d : List ℕ) → (answer columns s d).used ≤ length s

  -- no more U+FFFD are put in than bytes are used
  abbrev pub ReplacedFits : Type 0
  ReplacedFits = (columns : Columns) (s d : List ℕ) → (answer columns s d).replaced ≤ (answer columns s d).used

  -- and the texts of an accepted answer to a row of bytes show each: they have at least as many
  abbrev pub ReplacedShown : Type 0
  ReplacedShown =
      (columns : Columns) (s d : List ℕ) → AreBytes s → (answer columns s d).outcome ≡ accepted
      → (answer columns s d).replaced ≤ replacement_characters (utf8_pieces (take (texts_together (answer columns s d).places) (after columns s d)))

  -- in an accepted answer every place fits
  abbrev pub PlacesFit : Type 0
  PlacesFit =
      (columns : Columns) (s d : List ℕ) → (answer columns s d).outcome ≡ accepted
      → (i : ℕ) → Fits (held (get_or (answer columns s d).places i blank_value).value) s (after columns s d)

  -- W10; and Null only where the column is nullable or of type Null
  abbrev pub SortsAllowed : Type 0
  SortsAllowed =
      (columns : Columns) (s d : List ℕ) → (answer columns s d).outcome ≡ accepted
      → (i : ℕ) → i < length (covered columns) → Allows (get_or (covered columns) i blank_column) (get_or (answer columns s d).places i blank_value).value

  -- T1: each text of an accepted answer to a row of bytes
  abbrev pub TextsUtf8 : Type 0
  TextsUtf8 =
      (columns : Columns) (s d : List ℕ) → AreBytes s → (answer columns s d).outcome ≡ accepted
      → (i : ℕ) → HoldsUtf8 (held (get_or (answer columns s d).places i blank_value).value) (after columns s d)
