-- N14d: what specs/Waiting.antt says of the row rules, as the row call answers it. Statements; proofs/WaitingCall.antt proves them. Assumes nothing.
use Rattle.std.specs.Prelude.{ℕ, ◌+◌, ◌≤◌, ◌<◌, ◌≡◌, true, false, List, [], ◌∷◌, ◌++◌, length}
use Rattle.refusal.specs.Refusal.{accepted, refused, input_limit}
use Rattle.unicode_standard.specs.Laws.{AreBytes}
use Rattle.conversion.specs.Conversion.{is_release}
use Rattle.types.specs.declared.Columns.{Columns}
use Rattle.types.specs.Places.{max_columns, covered}
use Rattle.rules.specs.OwnEnd.{all_carry_own_end}
use Rattle.rules.specs.Walk.{Cell, done, short, skip_of, walk_row}
use Rattle.rules.specs.Row.{refused_row, row_texts, any_dec_float}
use Rattle.rules.specs.Conversions.{conversions_of, row_answer, row_text}
use Rattle.rules.specs.Demand3.{LargeEnough, Same}
use Rattle.rules.specs.Waiting.{zero_bytes, zeros_for, longest_body, all_keep_acceptance}

-- none of refusals 22, 3, 4 and 5, which come before the walk, meets a call
pub record ReachesWalk (release : ℕ) (columns : Columns) (s : List ℕ) : Type 0 where
  pub known : is_release release ≡ true
  pub few : columns.count ≤ max_columns
  pub fits : length s ≤ input_limit
  pub plain : any_dec_float (covered columns) ≡ false

pub record Tied (release : ℕ) : Type 0 where
  -- too short is refusal 8, with the same two numbers, whatever the text buffer; and 8 comes of nothing else
  pub short_8 : (columns : Columns) (s d : List ℕ) → ReachesWalk release columns s → (x y : ℕ) → walk_row (covered columns) s ≡ short x y
      → row_answer release columns s d ≡ refused_row 8 (x ∷ y ∷ [])
  pub from_8 : (columns : Columns) (s d vs : List ℕ) → (row_answer release columns s d).outcome ≡ refused 8 vs
      → ReachesWalk release columns s × (x : ℕ) × (y : ℕ) × (walk_row (covered columns) s ≡ short x y) × (x ∷ y ∷ [] ≡ vs)
  -- accepted is accepted, with the same bytes used, where the text buffer holds the texts, and else refusal 9 with their length; and these two come of nothing else
  pub done_accepted : (columns : Columns) (s d : List ℕ) → ReachesWalk release columns s → (ps : List Cell) (n : ℕ) → walk_row (covered columns) s ≡ done ps n
      → length (row_texts (conversions_of release) ps) ≤ length d → ((row_answer release columns s d).outcome ≡ accepted) × ((row_answer release columns s d).used ≡ n)
  pub done_9 : (columns : Columns) (s d : List ℕ) → ReachesWalk release columns s → (ps : List Cell) (n : ℕ) → walk_row (covered columns) s ≡ done ps n
      → length d < length (row_texts (conversions_of release) ps) → row_answer release columns s d ≡ refused_row 9 (length (row_texts (conversions_of release) ps) ∷ [])
  pub from_accepted : (columns : Columns) (s d : List ℕ) → (row_answer release columns s d).outcome ≡ accepted
      → ReachesWalk release columns s × (ps : List Cell) × (walk_row (covered columns) s ≡ done ps (row_answer release columns s d).used)
  pub from_9 : (columns : Columns) (s d vs : List ℕ) → (row_answer release columns s d).outcome ≡ refused 9 vs
      → ReachesWalk release columns s × (ps : List Cell) × (n : ℕ) × (walk_row (covered columns) s ≡ done ps n) × (length (row_texts (conversions_of release) ps) ∷ [] ≡ vs)

-- the row call accepts s, with n bytes used, in every text buffer from some length on, and in a shorter one refuses it with that length
abbrev pub AcceptsIn : ℕ → Columns → List ℕ → ℕ → Type 0
AcceptsIn release columns s n =
    (enough : ℕ)
    × ((e : List ℕ) → enough ≤ length e → ((row_answer release columns s e).outcome ≡ accepted) × ((row_answer release columns s e).used ≡ n))
    × ((e : List ℕ) → length e < enough → row_answer release columns s e ≡ refused_row 9 (enough ∷ []))

pub record WorthWaiting (release : ℕ) : Type 0 where
  -- a row that is refused by 8 is accepted with the zeros behind it that it lacks, where the length limit has room for them, and uses every byte
  pub completed : (columns : Columns) (s d vs : List ℕ) → 2 ≤ length s → (row_answer release columns s d).outcome ≡ refused 8 vs
      → length s + zeros_for (covered columns) s ≤ input_limit
      → AcceptsIn release columns (s ++ zero_bytes (zeros_for (covered columns) s)) (length s + zeros_for (covered columns) s)
  -- it has room for them, whatever the row, where the longest row of the columns is within it
  pub has_room : (columns : Columns) (s d vs : List ℕ) → AreBytes s → 2 ≤ length s → (row_answer release columns s d).outcome ≡ refused 8 vs
      → skip_of s + longest_body (covered columns) ≤ input_limit → length s + zeros_for (covered columns) s ≤ input_limit
  -- an accepted row, also one of which no byte is used, has the same answer with bytes added behind it, where the columns carry their own end
  pub stays : (columns : Columns) → all_carry_own_end (covered columns) ≡ true → (s u d e : List ℕ) → 2 ≤ length s → (row_answer release columns s d).outcome ≡ accepted
      → length (s ++ u) ≤ input_limit → LargeEnough (row_answer release columns s d) e → Same (row_answer release) (row_text release) columns (s ++ u) e s d
  -- and is accepted, with LobBytes and LobChar of any length let in
  pub stays_accepted : (columns : Columns) → all_keep_acceptance (covered columns) ≡ true → (s u d : List ℕ) → 2 ≤ length s → (row_answer release columns s d).outcome ≡ accepted
      → length (s ++ u) ≤ input_limit → (n : ℕ) × AcceptsIn release columns (s ++ u) n
