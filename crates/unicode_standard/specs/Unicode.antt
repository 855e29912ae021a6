-- Text as the Unicode Standard defines it, chapter 3, sections 3.9 "Unicode Encoding Forms" and 3.10 "Unicode Encoding Schemes".
-- Definitions (D76 ..) and tables (3-4 ..) are cited by the numbers of Version 15.0, from memory. Code points, code units and bytes are numbers.
-- Code units are read as pieces, each of which is a scalar value or malformed; U+FFFD replaces what is malformed. Laws.antt has what holds of it,
-- Examples.antt the Standard's own examples. Assumes nothing.
use Rattle.std.specs.Prelude.{ℕ, zero, suc, ◌+◌, ◌*◌, ◌-◌, ◌/◌, ◌%◌, Bool, true, false, cond, List, [], ◌∷◌, ◌++◌, leb, ltb, eqb, length, take}
use Rattle.std.proofs.Math.Option.{Option, none, some}

-- ---- scalar values

-- the numbers from low to high, both included
pub record Range : Type 0 where
  pub low : ℕ
  pub high : ℕ

abbrev pub range : ℕ → ℕ → Range
range a b = record { low = a; high = b }

unfoldable pub within : ℕ → Range → Bool
within b r = cond (leb r.low b) (leb b r.high) false

-- D76, Unicode scalar value: 0 to D7FF and E000 to 10FFFF, the code points that are no surrogates
unfoldable pub is_scalar_value : ℕ → Bool
is_scalar_value v = cond (within v (range 0x0 0xD7FF)) true (within v (range 0xE000 0x10FFFF))

-- ---- pieces, and their text

-- `scalar v` is the scalar value v. `malformed` is a part that encodes none
pub data Piece : Type 0 where
  scalar : ℕ → Piece
  malformed : Piece

-- D92 and Table 3-6, UTF-8 Bit Distribution: the bytes of a scalar value
unfoldable pub utf8 : ℕ → List ℕ
utf8 v =
    cond (ltb v 0x80) (v ∷ [])
    (cond (ltb v 0x800) ((0xC0 + v / 64) ∷ (0x80 + v % 64) ∷ [])
    (cond (ltb v 0x10000) ((0xE0 + v / 4096) ∷ (0x80 + v / 64 % 64) ∷ (0x80 + v % 64) ∷ [])
    ((0xF0 + v / 262144) ∷ (0x80 + v / 4096 % 64) ∷ (0x80 + v / 64 % 64) ∷ (0x80 + v % 64) ∷ [])))

-- U+FFFD REPLACEMENT CHARACTER
abbrev pub replacement : ℕ
replacement = 0xFFFD

-- The UTF-8 text of a piece, and of a list of pieces. One U+FFFD for each malformed part: section 3.9, "U+FFFD Substitution of Maximal Subparts"
unfoldable pub piece_text : Piece → List ℕ
piece_text (scalar v) = utf8 v
piece_text malformed = utf8 replacement

unfoldable pub pieces_text : List Piece → List ℕ
pieces_text [] = []
pieces_text (p ∷ ps) = piece_text p ++ pieces_text ps

-- N4a: how many parts are replaced in that text
abbrev pub replacements_in : Piece → ℕ
replacements_in (scalar v) = 0
replacements_in malformed = 1

unfoldable pub replacements : List Piece → ℕ
replacements [] = 0
replacements (p ∷ ps) = replacements_in p + replacements ps

-- ---- reading, piece by piece

-- the piece that a sequence of code units begins with, and how many units that takes after the first
pub record First : Type 0 where
  pub piece : Piece
  pub more : ℕ

-- the pieces that begin after the first k units, where `first u us` is what u, and then us, begin with
unfoldable pub read_from : (ℕ → List ℕ → First) → ℕ → List ℕ → List Piece
read_from first k [] = []
read_from first zero (u ∷ us) = (first u us).piece ∷ read_from first (first u us).more us
read_from first (suc k) (u ∷ us) = read_from first k us

-- ---- UTF-8: D92

-- A row of Table 3-7, which is a class of byte sequences: the range of the first byte, and those of the bytes after it. `base` is the first byte's fixed bits, of Table 3-6
pub record Sequence : Type 0 where
  pub first : Range
  pub base : ℕ
  pub trails : List Range

abbrev pub sequence : Range → ℕ → List Range → Sequence
sequence f b ts = record { first = f; base = b; trails = ts }

abbrev pub trail : Range
trail = range 0x80 0xBF

-- Table 3-7, Well-Formed UTF-8 Byte Sequences
abbrev pub table_3_7 : List Sequence
table_3_7 =
    sequence (range 0x00 0x7F) 0x00 []
    ∷ sequence (range 0xC2 0xDF) 0xC0 (trail ∷ [])
    ∷ sequence (range 0xE0 0xE0) 0xE0 (range 0xA0 0xBF ∷ trail ∷ [])
    ∷ sequence (range 0xE1 0xEC) 0xE0 (trail ∷ trail ∷ [])
    ∷ sequence (range 0xED 0xED) 0xE0 (range 0x80 0x9F ∷ trail ∷ [])
    ∷ sequence (range 0xEE 0xEF) 0xE0 (trail ∷ trail ∷ [])
    ∷ sequence (range 0xF0 0xF0) 0xF0 (range 0x90 0xBF ∷ trail ∷ trail ∷ [])
    ∷ sequence (range 0xF1 0xF3) 0xF0 (trail ∷ trail ∷ trail ∷ [])
    ∷ sequence (range 0xF4 0xF4) 0xF0 (range 0x80 0x8F ∷ trail ∷ trail ∷ [])
    ∷ []

-- the class of sequences that the byte b begins, if there is one
unfoldable pub sequence_in : List Sequence → ℕ → Option Sequence
sequence_in [] b = none
sequence_in (r ∷ rs) b = cond (within b r.first) (some r) (sequence_in rs b)

-- how many bytes, from the first, lie in the ranges, one after the other
unfoldable pub fit : List Range → List ℕ → ℕ
fit [] bs = zero
fit (r ∷ rs) [] = zero
fit (r ∷ rs) (b ∷ bs) = cond (within b r) (suc (fit rs bs)) zero

-- the scalar value of a sequence, by Table 3-6: the first byte's free bits, then the low six bits of each byte after it
unfoldable pub scalar_from : ℕ → List ℕ → ℕ
scalar_from v [] = v
scalar_from v (t ∷ ts) = scalar_from (v * 64 + (t - 0x80)) ts

-- What the byte b, and then bs, begin with, where the class of b is given: the scalar value where its ranges are filled, else the maximal subpart of
-- D93b, which is as much of them as is there, or one byte where b begins no sequence
unfoldable pub first_by : Option Sequence → ℕ → List ℕ → First
first_by none b bs = record { piece = malformed; more = zero }
first_by (some r) b bs =
    let n : ℕ = fit r.trails bs in
    record { piece = cond (eqb n (length r.trails)) (scalar (scalar_from (b - r.base) (take n bs))) malformed; more = n }

unfoldable pub first_of : ℕ → List ℕ → First
first_of b bs = first_by (sequence_in table_3_7 b) b bs

abbrev pub utf8_pieces : List ℕ → List Piece
utf8_pieces s = read_from first_of 0 s

-- the text of UTF-8 bytes
unfoldable pub utf8_text : List ℕ → List ℕ
utf8_text s = pieces_text (utf8_pieces s)

-- ---- UTF-16: D91, and big-endian in bytes, D96

-- D91 and Table 3-5, UTF-16 Bit Distribution: the code units of a scalar value
unfoldable pub utf16 : ℕ → List ℕ
utf16 v = cond (ltb v 0x10000) (v ∷ []) ((0xD800 + (v - 0x10000) / 0x400) ∷ (0xDC00 + (v - 0x10000) % 0x400) ∷ [])

-- D96, UTF-16BE: the bytes of code units, the most significant first
unfoldable pub big_endian : List ℕ → List ℕ
big_endian [] = []
big_endian (u ∷ us) = u / 256 ∷ u % 256 ∷ big_endian us

-- the code units of such bytes; a last byte that is alone makes none (T7 reads UTF-16 only where the byte count is even)
unfoldable pub units : List ℕ → List ℕ
units [] = []
units (a ∷ []) = []
units (a ∷ b ∷ bs) = (a * 256 + b) ∷ units bs

-- D72, high-surrogate, and D74, low-surrogate code unit
abbrev pub high_surrogates : Range
high_surrogates = range 0xD800 0xDBFF

abbrev pub low_surrogates : Range
low_surrogates = range 0xDC00 0xDFFF

-- D75 and Table 3-5: the scalar value of a surrogate pair
abbrev pub pair_value : ℕ → ℕ → ℕ
pair_value u v = 0x10000 + (u - 0xD800) * 0x400 + (v - 0xDC00)

-- a high surrogate u, and then us: with a low surrogate it is a pair, else it is unpaired
unfoldable pub pair_of : ℕ → List ℕ → First
pair_of u [] = record { piece = malformed; more = zero }
pair_of u (v ∷ us) = cond (within v low_surrogates) (record { piece = scalar (pair_value u v); more = 1 }) (record { piece = malformed; more = zero })

-- What the unit u, and then us, begin with: a surrogate pair is one scalar value, an unpaired surrogate a maximal subpart (D93b) of one unit, and any
-- other unit is the scalar value of its number
unfoldable pub unit_of : ℕ → List ℕ → First
unit_of u us = cond (within u high_surrogates) (pair_of u us) (record { piece = cond (within u low_surrogates) malformed (scalar u); more = zero })

abbrev pub utf16_pieces : List ℕ → List Piece
utf16_pieces s = read_from unit_of 0 (units s)

-- the text, in UTF-8, of big-endian UTF-16 bytes
unfoldable pub utf16_text : List ℕ → List ℕ
utf16_text s = pieces_text (utf16_pieces s)
