-- N14e: the fewest bytes that complete a row that is too short. Where the length limit has room for them, some bytes make the row call accept it; where it has not, it refuses
-- the row whatever bytes follow. For columns that carry their own end. Statements; proofs/Fewest.antt proves them. Assumes nothing.
use Rattle.std.specs.Prelude.{ℕ, ◌+◌, ◌≤◌, ◌<◌, ◌≡◌, Bool, true, false, cond, List, [], ◌∷◌, ◌++◌, ◌⊎◌, length, drop, eqb}
use Rattle.refusal.specs.Refusal.{refused, input_limit}
use Rattle.unicode_standard.specs.Laws.{AreBytes}
use Rattle.types.specs.declared.ColumnDescriptor.{ColumnDescriptor}
use Rattle.types.specs.declared.Columns.{Columns}
use Rattle.types.specs.Places.{covered}
use Rattle.rules.specs.declared.Extent.{Extent}
use Rattle.rules.specs.declared.Extent.TheVariants.{Fixed, Counted, Header, Inline, Locator, Materialized}
use Rattle.rules.specs.Extent.{need, extent_of}
use Rattle.rules.specs.OwnEnd.{all_carry_own_end}
use Rattle.rules.specs.Walk.{skip_of}
use Rattle.rules.specs.Conversions.{row_answer}
use Rattle.rules.specs.Waiting.{TooShort, Accepts, zero_bytes, settling, lacking_by}
use Rattle.rules.specs.WaitingCall.{AcceptsIn}

-- the fewest bytes that a value takes of which nothing is there, of an extent that ends itself: a header may say that nothing is behind its two bytes
abbrev pub shortest : Extent → ℕ
shortest (Fixed n) = n
shortest (Counted unit) = 2
shortest (Header n) = 2
shortest Inline = 4
shortest Locator = 4
shortest (Materialized n) = n

-- and of one that begins with s: what zeros make of it
unfoldable pub fewest_need : Extent → List ℕ → ℕ
fewest_need e [] = shortest e
fewest_need e (b ∷ s) = need e ((b ∷ s) ++ zero_bytes (settling e))

-- of a nullable column of which nothing is there it is the indicator of Null
abbrev pub fewest_cell : Bool → Extent → List ℕ → ℕ
fewest_cell true e [] = 1
fewest_cell true e (b ∷ s) = cond (eqb b 0xFF) 1 (1 + fewest_need e s)
fewest_cell false e s = fewest_need e s

unfoldable pub fewest_taken : ColumnDescriptor → List ℕ → ℕ
fewest_taken c s = fewest_cell c.nullable (extent_of c) s

abbrev pub fewest_for : List ColumnDescriptor → List ℕ → ℕ
fewest_for cs s = lacking_by fewest_taken cs (drop (skip_of s) s)

pub record Fewest : Type 0 where
  -- there are so many bytes that complete a row that is too short
  pub attained : (cs : List ColumnDescriptor) → all_carry_own_end cs ≡ true → (s : List ℕ) → 2 ≤ length s → TooShort cs s
      → (u : List ℕ) × AreBytes u × (length u ≡ fewest_for cs s) × Accepts cs (s ++ u) (length (s ++ u))
  -- and no fewer do, of whatever bytes
  pub fewest : (cs : List ColumnDescriptor) → all_carry_own_end cs ≡ true → (s u : List ℕ) → 2 ≤ length s → AreBytes u → (n : ℕ) → Accepts cs (s ++ u) n → fewest_for cs s ≤ length u

-- of a row that the row call refuses by 8
pub record WaitingLimit (release : ℕ) : Type 0 where
  pub possible : (columns : Columns) → all_carry_own_end (covered columns) ≡ true → (s d vs : List ℕ) → 2 ≤ length s → (row_answer release columns s d).outcome ≡ refused 8 vs
      → length s + fewest_for (covered columns) s ≤ input_limit
      → (u : List ℕ) × AreBytes u × (length u ≡ fewest_for (covered columns) s) × AcceptsIn release columns (s ++ u) (length (s ++ u))
  -- whatever bytes follow, it stays refused, by 8 or by 4
  pub impossible : (columns : Columns) → all_carry_own_end (covered columns) ≡ true → (s d vs : List ℕ) → 2 ≤ length s → (row_answer release columns s d).outcome ≡ refused 8 vs
      → input_limit < length s + fewest_for (covered columns) s → (u e : List ℕ) → AreBytes u
      → ((row_answer release columns (s ++ u) e).outcome ≡ refused 4 []) ⊎ ((us : List ℕ) × ((row_answer release columns (s ++ u) e).outcome ≡ refused 8 us))
