-- Refusals by the rules' numbers: promises speak of these numbers and values, and not of the code's enum (G10). Assumes nothing.
use Rattle.std.specs.Prelude.{ℕ, List, [], ◌∷◌, get_or, Result, Ok, Err}
use Rattle.refusal.specs.declared.Refusal.{Refusal}
use Rattle.refusal.specs.declared.Refusal.TheVariants.{QrydscTooLong, TooManyColumns, CountTooLarge, InputTooLong, DecFloatColumn, DecimalEmpty, DecimalTooLong, BufferTooShort, TextBufferTooShort, DecimalDigit, DecimalSign, DecimalOutOfRange, QrydscBrokenOff, UnknownRelease}

-- the number of a refusal
abbrev pub refusal_number : Refusal → ℕ
refusal_number QrydscTooLong = 1
refusal_number TooManyColumns = 2
refusal_number CountTooLarge = 3
refusal_number InputTooLong = 4
refusal_number DecFloatColumn = 5
refusal_number DecimalEmpty = 6
refusal_number DecimalTooLong = 7
refusal_number (BufferTooShort expected actual) = 8
refusal_number (TextBufferTooShort needed) = 9
refusal_number DecimalDigit = 12
refusal_number DecimalSign = 13
refusal_number DecimalOutOfRange = 14
refusal_number QrydscBrokenOff = 15
refusal_number UnknownRelease = 22

-- the numbers that come with it: `expected` and `actual` with 8, the length needed with 9
abbrev pub refusal_values : Refusal → List ℕ
refusal_values (BufferTooShort expected actual) = expected ∷ actual ∷ []
refusal_values (TextBufferTooShort needed) = needed ∷ []
refusal_values r = []

-- what a call says of its input: that it accepted, or a refusal by number and values
pub data Told : Type 0 where
  accepted : Told
  refused : ℕ → List ℕ → Told

-- of an answer: what is in an accepted one has no part in it
abbrev pub told : {A : Type 0} → Result A Refusal → Told
told (Ok a) = accepted
told (Err r) = refused (refusal_number r) (refusal_values r)

-- the refusal's number, and 0 where there is none
abbrev pub told_number : Told → ℕ
told_number accepted = 0
told_number (refused n vs) = n

-- the refusal's value number k, from 0; and 0 where it has none
abbrev pub told_value : Told → ℕ → ℕ
told_value accepted k = 0
told_value (refused n vs) k = get_or vs k 0

-- the most bytes of a row, and for a text conversion called alone: refusal 4 above it
abbrev pub input_limit : ℕ
input_limit = 1048576

-- the most bytes of a packed decimal called alone: refusal 7 above it. A precision fits 8 bits, so no column has more
abbrev pub most_bytes : ℕ
most_bytes = 128
