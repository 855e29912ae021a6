-- For inner functions; no public promise rests on it. How many columns there are, and where counting them ended. Assumes nothing.
use Rattle.std.specs.Prelude.{ℕ, ◌≤◌, ◌<◌, ◌≡◌, List, length}
use Rattle.types.specs.declared.ColumnDescriptor.{ColumnDescriptor}
use Rattle.types.specs.Places.{max_columns}
use Rattle.triplets.specs.Descriptors.{Environment, columns_of}
use Rattle.triplets.specs.Steps.{end_from}

-- r is the number of the columns, whatever the environment is, and is no more than the bytes
pub record Counts (bytes : ℕ) (columns : Environment → List ColumnDescriptor) (r : ℕ) : Type 0 where
  pub few : r ≤ bytes
  pub same : (env : Environment) → r ≡ length (columns env)

-- r is the number of a description's columns, or both are more than a list has places for; the triplets before a place are read, and where r is the number,
-- these are all
pub record Counted (s : List ℕ) (r at : ℕ) : Type 0 where
  pub all : r ≤ max_columns → r ≡ length (columns_of s)
  pub more : max_columns < r → max_columns < length (columns_of s)
  pub within : at ≤ length s
  pub ends : end_from s at ≡ end_from s 0
  pub ended : r ≤ max_columns → at ≡ end_from s 0
