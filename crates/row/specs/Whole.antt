-- For inner functions; no public promise rests on it. A walk in which every column has its bytes. Assumes nothing.
use Rattle.std.specs.Prelude.{ℕ, ◌≡◌, List}
use Rattle.rules.specs.Walk.{Cell, Walk, done}

-- the walk w is done, and `end` bytes of the input are used
pub record Whole (w : Walk) (end : ℕ) : Type 0 where
  pub cells : List Cell
  pub is : w ≡ done cells end
