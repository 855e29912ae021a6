-- What a refused call's answer has at every place: a blank column, and a blank value, whose numbers are 0. Assumes nothing.
use Prim.Native.Nat.{ℕ, zero, suc}
use mathlib.Core.Path.{◌≡◌, refl}
use mathlib.Core.List.{List, map, []}
use lib.ListN.{get_or, replicate}
use Rattle.types.specs.Places.{column_list, filled, blank_column, blank_value}
use Rattle.rules.specs.Row.{refused_row}
use Rattle.by_value.specs.ByValue.{own_length, length_at, number_of, number_at}

all_zero : {A : Type 0} (f : A → ℕ) (b : A) → f b ≡ 0 → (n i : ℕ) → get_or (map f (replicate n b)) i 0 ≡ 0
all_zero f b e zero i = refl
all_zero f b e (suc n) zero = e
all_zero f b e (suc n) (suc i) = all_zero f b e n i

pub no_length : (i : ℕ) → length_at (column_list []) i ≡ 0
unfolding column_list filled blank_column
no_length i = all_zero own_length blank_column refl 128 i

pub no_number : (n : ℕ) (vs : List ℕ) (i : ℕ) → number_at (refused_row n vs) i ≡ 0
unfolding filled blank_value
no_number n vs i = all_zero number_of blank_value refl 128 i
