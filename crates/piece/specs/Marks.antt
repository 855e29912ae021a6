-- For inner functions; no public promise rests on it. Marks of columns: a bit for each, 64 in a word. Assumes nothing.
use Rattle.std.specs.Prelude.{ℕ, ◌/◌, ◌%◌, ◌^◌, ◌<◌, ◌≡◌, Bool, true, List, ◌⊎◌, eqb, get_or}
use Rattle.rules.specs.Walk.{absent, Walk, done, short}
use Rattle.piece.specs.Piece.{PlainCell}

-- the mark of column k: its bit is 0
unfoldable pub mark_at : List ℕ → ℕ → Bool
mark_at m k = eqb (get_or m (k / 64) 0 / 2 ^ (k % 64) % 2) 0

-- the marks n are those of m, and none more but that of column k where `plain` says so
abbrev pub Marks : List ℕ → ℕ → Bool → List ℕ → Type 0
Marks m k plain n = (j : ℕ) → mark_at n j ≡ true → (mark_at m j ≡ true) ⊎ ((j ≡ k) × (plain ≡ true))

-- every marked column of a walk has a text that is copied
abbrev pub PlainMarks : ℕ → List ℕ → Walk → Type 0
PlainMarks release m (done ps n) = (k : ℕ) → k < 768 → mark_at m k ≡ true → PlainCell release (get_or ps k absent)
PlainMarks release m (short e a) = Unit {0}
