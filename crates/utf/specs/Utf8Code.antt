-- What the UTF-8 functions of src/utf8.rt say of a position in a slice: for inner functions; no public promise rests on it. Assumes nothing.
use Rattle.std.specs.Prelude.{ℕ, suc, ◌+◌, ◌≤◌, ◌<◌, Bool, true, false, cond, Option, Some, None, List, ◌∷◌, ◌++◌, ◌≡◌, ltb, eqb, length, take, drop, get_or, replicate}
use Rattle.utf.specs.declared.utf8.Standing.{Standing}
use Rattle.utf.specs.declared.utf8.Standing.TheVariants.{WellFormed, Malformed}
use Rattle.unicode_standard.specs.Unicode.{Piece, scalar, malformed, Range, range, trail, within, fit, First, first_of, utf8_pieces, pieces_text, replacements}

-- the byte at j is there and lies in the range
unfoldable pub trail_at : List ℕ → ℕ → ℕ → ℕ → Bool
trail_at s j low high = cond (ltb j (length s)) (within (get_or s j 0) (range low high)) false

-- what the sequence at i begins with
unfoldable pub first_at : List ℕ → ℕ → First
first_at s i = first_of (get_or s i 0) (drop (suc i) s)

abbrev pub is_scalar : Piece → Bool
is_scalar (scalar v) = true
is_scalar malformed = false

-- the piece at i takes n bytes, and is a scalar value (ok) or malformed
abbrev pub PieceAt : List ℕ → ℕ → ℕ → Bool → Type 0
PieceAt s i n ok = (n ≡ suc (first_at s i).more) × (ok ≡ is_scalar (first_at s i).piece)

-- a quick look at i tells of a piece of n bytes, two or three, that is a scalar value; or nothing
abbrev pub Common : List ℕ → ℕ → Option ℕ → Type 0
Common s i (Some n) = (2 ≤ n) × ((n ≤ 3) × PieceAt s i n true)
Common s i None = Unit {0}

-- the ranges of the bytes after a first byte: one of its own, and n as any trail byte
unfoldable pub ranges : ℕ → ℕ → ℕ → List Range
ranges low high n = range low high ∷ replicate n trail

-- how many bytes fit after the first of a sequence, which stands at i, where it wants one from low to high and n others after it
abbrev pub fit_after : List ℕ → ℕ → ℕ → ℕ → ℕ → ℕ
fit_after s i low high n = fit (ranges low high n) (drop (suc i) s)

-- the lowest and the highest byte that may follow the first byte b of a sequence of three or four
abbrev pub lowest_after : ℕ → ℕ
lowest_after b = cond (eqb b 0xE0) 0xA0 (cond (eqb b 0xF0) 0x90 0x80)

abbrev pub highest_after : ℕ → ℕ
highest_after b = cond (eqb b 0xED) 0x9F (cond (eqb b 0xF4) 0x8F 0xBF)

-- the first byte of a sequence, with n that fit after it of those that it wants
abbrev pub with_first : ℕ → ℕ → Standing
with_first n wanted = cond (eqb n wanted) (WellFormed (n + 1)) (Malformed (n + 1))

-- a finding P of some bytes, by how many they are and whether they are well-formed
abbrev pub Coded : (ℕ → Bool → Type 0) → Standing → Type 0
Coded P (WellFormed n) = P n true
Coded P (Malformed n) = P n false

-- The first n bytes of l are well-formed: they are read as scalar values, and reading goes on after them
pub record Good (n : ℕ) (l : List ℕ) : Type 0 where
  pub ps : List Piece
  pub split : utf8_pieces l ≡ ps ++ utf8_pieces (drop n l)
  pub text : pieces_text ps ≡ take n l
  pub none : replacements ps ≡ 0
  pub fits : n ≤ length l

-- What follows the first n bytes of l: a malformed part of m bytes, or nothing
abbrev pub Stop : ℕ → Option ℕ → List ℕ → Type 0
Stop n None l = n ≡ length l
Stop n (Some m) l = (0 < m) × ((utf8_pieces (drop n l) ≡ malformed ∷ utf8_pieces (drop (n + m) l)) × (n + m ≤ length l))
