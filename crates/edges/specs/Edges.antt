-- The cases A to P, each with its outcome: V1. Assumes nothing.
use Rattle.std.specs.Prelude.{ℕ, ◌≡◌, true, false, List, [], ◌∷◌, map, pos, length, replicate, take, drop}
use Prim.Native.Char.{Char, code}
use Rattle.refusal.specs.Refusal.{Told, accepted}
use Rattle.buffer.specs.Buffer.{TextTold, overwritten}
use Rattle.types.specs.declared.Db2Value.{Db2Value}
use Rattle.types.specs.declared.ValuePlace.{ValuePlace}
use Rattle.types.specs.Places.{filled, blank_value}
use Rattle.qrydsc.specs.Qrydsc.{description}
use Rattle.rules.specs.Value.{value_bytes}
use Rattle.rules.specs.Row.{RowTold, place, refused_row}
use Rattle.rules.specs.Conversions.{row_answer, row_text}
use Rattle.decimal.specs.Decimal.{decimal_answer, decimal_buffer}
use Rattle.edges.specs.Ascii.{ascii}

-- the text buffer that each case is given
abbrev pub lent : List ℕ
lent = replicate 24 0xAA

-- a case: a description and a row; or a packed decimal and its scale
pub data Given : Type 0 where
  row_case : List ℕ → List ℕ → Given
  decimal_case : List ℕ → ℕ → Given

-- the whole outcome: what is said of the description; the row call's answer, every value place, external columns, bytes used and replaced characters included; the text buffer after
-- it; and the bytes of each column's value. Of a decimal: the call's answer, and the text buffer after it
pub data Found : Type 0 where
  answered : Told → RowTold → List ℕ → List (List ℕ) → Found
  converted : TextTold → List ℕ → Found

-- at a host release; the table holds at 2 and at 3
unfoldable pub found_of : ℕ → Given → Found
found_of release (row_case d s) =
    let columns = (description d).columns in
    let answer = row_answer release columns s lent in
    let after = row_text release columns s lent in
    answered (description d).outcome answer after (map (λ v. value_bytes v.value s after) (take columns.count answer.places))
found_of release (decimal_case s scale) = converted (decimal_answer scale s lent) (decimal_buffer scale s lent)

-- an accepted row: its values, their texts one after the other, the bytes of each value, and the bytes used; in no case is a character replaced
abbrev pub values : List ValuePlace → List ℕ → List (List ℕ) → ℕ → Found
values vs texts bytes n = answered accepted (record { outcome = accepted; places = filled blank_value vs; used = n; replaced = 0 }) (overwritten texts lent) bytes

-- refusal 8
abbrev pub too_short : ℕ → ℕ → ℕ → Found
too_short columns expected actual = answered accepted (refused_row 8 (expected ∷ actual ∷ [])) lent (replicate columns [])

abbrev pub text_found : List ℕ → Found
text_found t = converted (record { outcome = accepted; written = length t; replaced = 0 }) (overwritten t lent)

-- a value within the row, and one that refers to data outside it
abbrev pub within_row : Db2Value → ValuePlace
within_row v = record { value = v; external = false }

abbrev pub outside : Db2Value → ValuePlace
outside v = record { value = v; external = true }

pub record Edge : Type 0 where
  pub letter : Char
  pub given : Given
  pub found : Found

abbrev pub edge : Char → Given → Found → Edge
edge l g o = record { letter = l; given = g; found = o }

-- the descriptions that several cases share
abbrev pub small_int_and_decimal : List ℕ
small_int_and_decimal = 0x09 ∷ 0x76 ∷ 0xD0 ∷ 0x05 ∷ 0x00 ∷ 0x02 ∷ 0x0F ∷ 0x05 ∷ 0x02 ∷ []

abbrev pub nullable_integer : List ℕ
nullable_integer = 0x05 ∷ 0x70 ∷ 0x03 ∷ 0x00 ∷ 0x04 ∷ []

abbrev pub header_of_one_byte : List ℕ
header_of_one_byte = 0x07 ∷ 0x70 ∷ 0x32 ∷ 0x80 ∷ 0x01 ∷ 0x04 ∷ 0xB8 ∷ []

abbrev pub clob_of_length0 : List ℕ
clob_of_length0 = 0x06 ∷ 0x76 ∷ 0xD0 ∷ 0xCA ∷ 0x00 ∷ 0x00 ∷ []

-- The table. That L uses 4 bytes and that M, N and O are external is from the Rust
unfoldable pub edges : List Edge
edges =
    edge "A" (row_case (0x05 ∷ 0x70 ∷ 0x02 ∷ 0x00 ∷ 0x04 ∷ []) (0x2A ∷ 0x00 ∷ 0x00 ∷ 0x00 ∷ [])) (values (within_row (Db2Value.Integer (pos 42)) ∷ []) [] ([] ∷ []) 4)
    ∷ edge "B" (row_case small_int_and_decimal (0x00 ∷ 0x00 ∷ 0x2A ∷ 0x00 ∷ 0x12 ∷ 0x34 ∷ 0x5C ∷ []))
    (values (within_row (Db2Value.SmallInt (pos 42)) ∷ within_row (Db2Value.Decimal (place 0 6)) ∷ []) (ascii "123.45") ([] ∷ ascii "123.45" ∷ []) 7)
    ∷ edge "C" (row_case small_int_and_decimal (0xFF ∷ 0x00 ∷ 0xFF ∷ 0xFF ∷ [])) (values (within_row Db2Value.Null ∷ within_row Db2Value.Null ∷ []) [] ([] ∷ [] ∷ []) 4)
    ∷ edge "D" (row_case nullable_integer (0xFF ∷ [])) (values (within_row Db2Value.Null ∷ []) [] ([] ∷ []) 1)
    ∷ edge "E" (row_case nullable_integer (0xFF ∷ 0xFF ∷ [])) (too_short 1 1 0)
    ∷ edge "F" (decimal_case (0x00 ∷ 0x5C ∷ []) 2) (text_found (ascii "0.05"))
    ∷ edge "G" (decimal_case (0x1C ∷ []) 3) (text_found (ascii "0.001"))
    ∷ edge "H" (decimal_case (0x0D ∷ []) 0) (text_found (ascii "-0"))
    ∷ edge "I" (decimal_case (0x12 ∷ 0x3B ∷ []) 0) (text_found (ascii "123"))
    ∷ edge "J" (row_case (0x03 ∷ 0x78 ∷ 0x31 ∷ 0x08 ∷ 0x70 ∷ 0x40 ∷ 0x00 ∷ 0x00 ∷ 0x00 ∷ 0x00 ∷ 0x25 ∷ 0x06 ∷ 0x76 ∷ 0xD0 ∷ 0x40 ∷ 0x00 ∷ 0x03 ∷ []) (0x00 ∷ 0xC1 ∷ 0xC2 ∷ 0xC3 ∷ []))
    (values (within_row (Db2Value.Char (place 0 3)) ∷ []) (ascii "ABC") (ascii "ABC" ∷ []) 4)
    ∷ edge "K" (row_case (0x05 ∷ 0x70 ∷ 0xC8 ∷ 0x80 ∷ 0x00 ∷ []) []) (values (within_row (Db2Value.Blob (place 0 0)) ∷ []) [] ([] ∷ []) 0)
    ∷ edge "L" (row_case (0x05 ∷ 0x70 ∷ 0xC8 ∷ 0x80 ∷ 0x04 ∷ []) (0x00 ∷ 0x00 ∷ 0x00 ∷ 0x07 ∷ []))
    (values (outside (Db2Value.Blob (place 0 4)) ∷ []) [] ((0x00 ∷ 0x00 ∷ 0x00 ∷ 0x07 ∷ []) ∷ []) 4)
    ∷ edge "M" (row_case header_of_one_byte (0x80 ∷ []))
    (values (outside (Db2Value.Clob (place 0 16)) ∷ []) (ascii "LOB locator 0x80") (ascii "LOB locator 0x80" ∷ []) 1)
    ∷ edge "N" (row_case header_of_one_byte (0x80 ∷ 0x00 ∷ []))
    (values (outside (Db2Value.Clob (place 0 14)) ∷ []) (ascii "LOB locator 0x") (ascii "LOB locator 0x" ∷ []) 2)
    ∷ edge "O" (row_case clob_of_length0 (0x02 ∷ 0x00 ∷ 0x00 ∷ 0x00 ∷ []))
    (values (outside (Db2Value.Clob (place 0 22)) ∷ []) (ascii "LOB locator 0x02000000") (ascii "LOB locator 0x02000000" ∷ []) 4)
    ∷ edge "P" (row_case clob_of_length0 (0x02 ∷ replicate 8 0x00)) (values (within_row (Db2Value.Clob (place 0 0)) ∷ []) [] ([] ∷ []) 9)
    ∷ []

-- V1: every outcome that the definitions give is the one in the table
abbrev pub EdgesHold : ℕ → Type 0
EdgesHold release = map (λ e. found_of release e.given) edges ≡ map (λ e. e.found) edges

-- the letters are A to P, in order
abbrev pub LettersInOrder : Type 0
LettersInOrder = map (λ e. code e.letter) edges ≡ ascii "ABCDEFGHIJKLMNOP"

-- what is given and its outcome are a row of the table, that of the letter with this code
abbrev pub IsEdge : ℕ → Given → Found → Type 0
IsEdge letter g o =
    (k : ℕ) × (map (λ e. code e.letter) (take 1 (drop k edges)) ≡ letter ∷ []) × (map (λ e. e.given) (take 1 (drop k edges)) ≡ g ∷ []) × (map (λ e. e.found) (take 1 (drop k edges)) ≡ o ∷ [])
