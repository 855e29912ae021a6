use Prim.Native.Nat.{ℕ, ◌<◌}
use mathlib.Core.Path.{◌≡◌}
use lib.ListN.{length, get_or}
use Rattle.types.specs.Places.{blank_column}
use Rattle.answers.proofs.columns.columns_of.Given as goal

abbrev pub invariant-loop-i : goal.invariant-loop-i
invariant-loop-i l = (length l.columns ≡ 128) × ((k : ℕ) → k < l.i → (get_or l.columns k blank_column).column_index ≡ k)
