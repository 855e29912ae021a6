-- Digits read from left to right, and the number in base ten that they make. Assumes nothing.
use Prim.Native.Nat.{ℕ, zero, suc, ◌+◌, ◌*◌, ◌^◌, ◌≤◌}
use mathlib.Core.List.{List, [], ◌∷◌, ◌++◌}
use mathlib.Core.Path.{◌≡◌, refl, ◌∙◌}
use native.Mathlib.Omega.{arith}
use native.Mathlib.Nat.{add-mul, mul_assoc, pow-suc}
use lib.ListN.{length, replicate}
use Rattle.zdecimal.specs.ZDecimal.{base10}

-- the number that the digits ds make after v
unfoldable pub from : ℕ → List ℕ → ℕ
from v [] = v
from v (d ∷ ds) = from (10 * v + d) ds

pub from_append : (v : ℕ) (ds es : List ℕ) → from v (ds ++ es) ≡ from (from v ds) es
unfolding from
from_append v [] es = refl
from_append v (d ∷ ds) es = from_append (10 * v + d) ds es

pub from_zeros : (n : ℕ) → from 0 (replicate n 0) ≡ 0
unfolding from
from_zeros zero = refl
from_zeros (suc n) = from_zeros n

pub from_base10 : (v : ℕ) (ds : List ℕ) → from v ds ≡ v * 10 ^ length ds + base10 ds
unfolding from base10
from_base10 v [] = omega arith
from_base10 v (d ∷ ds) =
    let p : ℕ = 10 ^ length ds in
    from_base10 (10 * v + d) ds
    ∙ rw (pow-suc 10 (length ds)) (omega (arith, add-mul (10 * v) d p, mul_assoc 10 v p, mul_assoc v p 10))

-- digits do not make a number less
pub from_grows : (v : ℕ) (ds : List ℕ) → v ≤ from v ds
unfolding from
from_grows v [] = omega arith
from_grows v (d ∷ ds) = omega (arith, from_grows (10 * v + d) ds)
