-- A text on its way into a buffer, where stores may run ahead of what is written: for inner functions; no public promise rests on it. Assumes nothing.
use Rattle.std.specs.Prelude.{ℕ, ◌≤◌, List, ◌≡◌, length, take, drop}

-- Of the text T, `rest` is not yet written into the buffer d, which is now `out`; the next byte goes to o. From o on `out` may hold anything, as far as T goes
pub record Filling (T d rest out : List ℕ) (o : ℕ) : Type 0 where
  pub room : length T ≤ length d
  pub before : o ≤ length T
  pub left : drop o T ≡ rest
  pub long : length out ≡ length d
  pub front : take o out ≡ take o T
  pub back : drop (length T) out ≡ drop (length T) d
