-- N14: a row that is too short can be completed, by zeros; one that is accepted stays accepted with bytes added behind it. About the walk that the row call's promise names,
-- for any number of columns and rows of at least two bytes, without an upper limit: refusals 3, 4, 5, 9 and 22 have no part. Statements; proofs/Waiting.antt proves them. Assumes nothing.
use Rattle.std.specs.Prelude.{ℕ, ◌+◌, ◌*◌, ◌-◌, ◌≤◌, ◌<◌, max, ◌≡◌, Bool, true, cond, not, ◌&&◌, ◌||◌, List, [], ◌∷◌, ◌++◌, length, drop, replicate}
use Rattle.unicode_standard.specs.Laws.{AreBytes}
use Rattle.types.specs.declared.ColumnDescriptor.{ColumnDescriptor}
use Rattle.rules.specs.declared.Extent.{Extent}
use Rattle.rules.specs.declared.Extent.TheVariants.{Fixed, Counted, Header, Inline, Locator, Materialized}
use Rattle.rules.specs.Extent.{extent_of}
use Rattle.rules.specs.OwnEnd.{is_lob_of_length0, is_tiny_header, all_carry_own_end}
use Rattle.rules.specs.Walk.{skip_of, column_need, Cell, done, short, walk_row}

-- by the row rules the row s is too short; or it is accepted, and n bytes of it are used
abbrev pub TooShort : List ColumnDescriptor → List ℕ → Type 0
TooShort cs s = (expected : ℕ) × (actual : ℕ) × (walk_row cs s ≡ short expected actual)

abbrev pub Accepts : List ColumnDescriptor → List ℕ → ℕ → Type 0
Accepts cs s n = (ps : List Cell) × (walk_row cs s ≡ done ps n)

-- N14a: for columns that carry their own end and rows of at least two bytes
pub record Waiting : Type 0 where
  -- there are bytes with which a row that is too short is accepted and uses every byte
  pub completable : (cs : List ColumnDescriptor) → all_carry_own_end cs ≡ true → (s : List ℕ) → 2 ≤ length s → TooShort cs s
      → (u : List ℕ) × AreBytes u × Accepts cs (s ++ u) (length (s ++ u))
  -- a row that is accepted, also one of which no byte is used, stays accepted, with the bytes used that it had
  pub stays : (cs : List ColumnDescriptor) → all_carry_own_end cs ≡ true → (s u : List ℕ) → 2 ≤ length s → (n : ℕ) → Accepts cs s n → Accepts cs (s ++ u) n

-- ---- N14b: which columns let an accepted row stay accepted

-- those that W9 does not list, and of those that it lists LobBytes and LobChar of 1,024 bytes or more: their rows stay accepted, though not what they are
unfoldable pub keeps_acceptance : ColumnDescriptor → Bool
keeps_acceptance c = not (is_lob_of_length0 c.db2_type c || is_tiny_header c.db2_type)

unfoldable pub all_keep_acceptance : List ColumnDescriptor → Bool
all_keep_acceptance [] = true
all_keep_acceptance (c ∷ cs) = keeps_acceptance c && all_keep_acceptance cs

pub record StaysAccepted : Type 0 where
  -- those that carry their own end are among them
  pub among : (cs : List ColumnDescriptor) → all_carry_own_end cs ≡ true → all_keep_acceptance cs ≡ true
  pub stays : (cs : List ColumnDescriptor) → all_keep_acceptance cs ≡ true → (s u : List ℕ) → 2 ≤ length s → (n : ℕ) → Accepts cs s n → (m : ℕ) × Accepts cs (s ++ u) m

-- ---- N14c: how many zeros

abbrev pub zero_bytes : ℕ → List ℕ
zero_bytes k = replicate k 0

-- so many zeros behind any bytes settle how many a value takes: two fill a count or a header's length, nine a reference, and a LobBytes or LobChar takes what it declares
-- where so many bytes are there
abbrev pub settling : Extent → ℕ
settling (Fixed n) = 0
settling (Counted unit) = 2
settling (Header n) = 2
settling Inline = 9
settling Locator = 9
settling (Materialized n) = n

-- what a column takes of the rest s with zeros behind it, one of them for an indicator
unfoldable pub filled_need : ColumnDescriptor → List ℕ → ℕ
filled_need c s = column_need c (s ++ zero_bytes (1 + settling (extent_of c)))

-- the bytes that the columns cs lack where the rest s is there, by what each takes: one that lacks bytes leaves none to those behind it
unfoldable pub lacking_by : (ColumnDescriptor → List ℕ → ℕ) → List ColumnDescriptor → List ℕ → ℕ
lacking_by takes [] s = 0
lacking_by takes (c ∷ cs) s = (takes c s - length s) + lacking_by takes cs (drop (takes c s) s)

abbrev pub zeros_for : List ColumnDescriptor → List ℕ → ℕ
zeros_for cs s = lacking_by filled_need cs (drop (skip_of s) s)

-- the most that a value takes of any bytes; and a row's columns together, with their indicators
abbrev pub most_taken : Extent → ℕ
most_taken (Fixed n) = n
most_taken (Counted unit) = 2 + unit * 0xFFFF
most_taken (Header n) = max n (2 + 0x7FFF)
most_taken Inline = 4 + 0xFFFFFFFF
most_taken Locator = 9
most_taken (Materialized n) = n

unfoldable pub longest_body : List ColumnDescriptor → ℕ
longest_body [] = 0
longest_body (c ∷ cs) = cond c.nullable 1 0 + most_taken (extent_of c) + longest_body cs

pub record Zeros : Type 0 where
  -- what filled_need says is taken as soon as so many bytes are there, however many zeros follow
  pub settled : (c : ColumnDescriptor) (s : List ℕ) (k : ℕ) → filled_need c s ≤ length s + k → column_need c (s ++ zero_bytes k) ≡ filled_need c s
  -- the zeros complete a row that is too short, whatever its columns
  pub complete : (cs : List ColumnDescriptor) (s : List ℕ) → 2 ≤ length s → TooShort cs s → Accepts cs (s ++ zero_bytes (zeros_for cs s)) (length s + zeros_for cs s)
  -- fewer do not, for the columns of N14b
  pub least : (cs : List ColumnDescriptor) → all_keep_acceptance cs ≡ true → (s : List ℕ) → 2 ≤ length s → TooShort cs s → (k : ℕ) → k < zeros_for cs s → TooShort cs (s ++ zero_bytes k)
  -- the row that they complete is no longer than the longest row of its columns
  pub bounded : (cs : List ColumnDescriptor) (s : List ℕ) → AreBytes s → 2 ≤ length s → TooShort cs s → length s + zeros_for cs s ≤ skip_of s + longest_body cs
