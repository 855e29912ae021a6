-- For inner functions; no public promise rests on it. Assumes nothing.
use Rattle.std.specs.Prelude.{ℕ, ◌<◌, List, ◌≡◌, take}
use Rattle.std.proofs.Math.Seq.{slice}
use Rattle.packed.specs.Packed.{trimmed}

-- of the first w digits of ds, those from z on stay
pub record Trimmed (ds : List ℕ) (w z : ℕ) : Type 0 where
  pub below : z < w
  pub left : trimmed (take w ds) ≡ slice z w ds
