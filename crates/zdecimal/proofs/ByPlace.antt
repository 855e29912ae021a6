-- The digits by their places, and their number as a sum (statement: specs/ByPlace.antt). Assumes nothing.
--     by_place      the statement, for any bytes
--     digits_hold, hold, digits_fail, fail      all are digits exactly where each is, and not exactly where one is none
use Prim.Native.Nat.{ℕ, zero, suc, ◌+◌, ◌-◌, ◌*◌, ◌/◌, ◌%◌, ◌^◌, ◌<◌, ◌≤◌}
use mathlib.Core.Bool.{Bool, true, false}
use mathlib.Core.List.{List, [], ◌∷◌}
use mathlib.Core.Path.{◌≡◌, refl, sym, ap, ◌∙◌, subst}
use native.Mathlib.Omega.{arith}
use borrow.Author.Tests.{eq-eqb, lt-ltb, le-ltb, ltb-true, ltb-false}
use Rattle.std.proofs.lemmas.List.Recursion.{and_at, and_from_places, and_fails_at}
use lib.Dec.{T, ltb}
use lib.ListN.{length, get_or}
use Rattle.zdecimal.specs.ZDecimal.{z_digits, are_digits, base10}
use Rattle.zdecimal.specs.ByPlace.{digit_at, sum_of, ByPlace}

-- ---- places

digits_count : (s : List ℕ) → length (z_digits s) ≡ 2 * length s - 1
unfolding z_digits
digits_count [] = refl
digits_count (b ∷ []) = refl
digits_count (b ∷ c ∷ s) = omega (arith, digits_count (c ∷ s))

-- two places further on stands what stands one byte further on
shifted : (b : ℕ) (s : List ℕ) (k : ℕ) → digit_at (b ∷ s) (suc (suc k)) ≡ digit_at s k
shifted b s k =
    let p : suc (suc k) % 2 ≡ k % 2 = omega arith in
    let q : suc (suc k) / 2 ≡ suc (k / 2) = omega arith in
    rw (p, q)

digit_at_lem : (s : List ℕ) (k : ℕ) → k < 2 * length s - 1 → get_or (z_digits s) k 0 ≡ digit_at s k
unfolding z_digits
digit_at_lem [] k h = let z : ⊥ = omega arith in absurd z
digit_at_lem (b ∷ []) zero h = refl
digit_at_lem (b ∷ []) (suc k) h = let z : ⊥ = omega arith in absurd z
digit_at_lem (b ∷ c ∷ s) zero h = refl
digit_at_lem (b ∷ c ∷ s) (suc zero) h = refl
digit_at_lem (b ∷ c ∷ s) (suc (suc k)) h = digit_at_lem (c ∷ s) k (omega arith) ∙ sym (shifted b (c ∷ s) k)

-- ---- the sum

sum_same : (n : ℕ) (f g : ℕ → ℕ) → ((k : ℕ) → k < n → f k ≡ g k) → sum_of n f ≡ sum_of n g
unfolding sum_of
sum_same zero f g h = refl
sum_same (suc n) f g h =
    let e = h 0 (omega arith) in
    let r = sum_same n (λ (k : ℕ). f (suc k)) (λ (k : ℕ). g (suc k)) (λ k q. h (suc k) (omega arith)) in
    omega arith

list_sum : (ds : List ℕ) → base10 ds ≡ sum_of (length ds) (λ (k : ℕ). get_or ds k 0 * 10 ^ (length ds - 1 - k))
unfolding base10 sum_of
list_sum [] = refl
list_sum (d ∷ ds) =
    let n : ℕ = length ds in
    let first : suc n - 1 - 0 ≡ n = omega arith in
    let rest : sum_of n (λ (k : ℕ). get_or ds k 0 * 10 ^ (n - 1 - k)) ≡ sum_of n (λ (k : ℕ). get_or ds k 0 * 10 ^ (suc n - 1 - suc k)) =
    sum_same n _ _ (λ k q. let e : n - 1 - k ≡ suc n - 1 - suc k = omega arith in ap (λ (p : ℕ). get_or ds k 0 * 10 ^ p) e) in
    rw (first) (ap (λ (m : ℕ). d * 10 ^ n + m) (list_sum ds ∙ rest))

pub by_place : (s : List ℕ) → ByPlace s
by_place s = record { digit_count = digits_count s; digit = digit_at_lem s; total = list_sum (z_digits s) ∙ ap (λ (n : ℕ). sum_of n (λ (k : ℕ). get_or (z_digits s) k 0 * 10 ^ (n - 1 - k))) (digits_count s) ∙ sum_same _ _ _ same }
  where
    same : (k : ℕ) → k < 2 * length s - 1 → get_or (z_digits s) k 0 * 10 ^ (2 * length s - 1 - 1 - k) ≡ digit_at s k * 10 ^ (2 * length s - 2 - k)
    same k h =
        let e : 2 * length s - 1 - 1 - k ≡ 2 * length s - 2 - k = omega arith in
        rw (digit_at_lem s k h, e)

-- ---- digits and what is none

no : {A : Type 0} → ◌≡◌ {A = Bool} false true → A
no h = absurd (subst T (sym h) tt)

list_fails : (ds : List ℕ) → are_digits ds ≡ false → (k : ℕ) × ((k < length ds) × (9 < get_or ds k 0))
unfolding are_digits
list_fails [] h = no (sym h)
list_fails (d ∷ ds) h = go (λ r. list_fails ds r) (ltb d 10) refl
  where
    go : (are_digits ds ≡ false → (k : ℕ) × ((k < length ds) × (9 < get_or ds k 0))) → (t : Bool) → ltb d 10 ≡ t → (k : ℕ) × ((k < length (d ∷ ds)) × (9 < get_or (d ∷ ds) k 0))
    go r true p = let w = r (rw p at h) in (suc w.0, (omega (arith, w.1.0), w.1.1))
    go r false p = (0, (omega arith, omega (arith, ltb-false d 10 p)))

module _ (s : List ℕ) where
  pub digits_hold : are_digits (z_digits s) ≡ true → (k : ℕ) → k < 2 * length s - 1 → digit_at s k ≤ 9
  unfolding are_digits
  digits_hold h k q =
      let d : ltb (get_or (z_digits s) k 0) 10 ≡ true = and_at are_digits (λ (d : ℕ). ltb d 10) refl (λ _ _. refl) (z_digits s) k 0 (omega (arith, digits_count s)) h in
      omega (arith, digit_at_lem s k q, ltb-true _ 10 d)

  pub digits_fail : are_digits (z_digits s) ≡ false → (k : ℕ) × ((k < 2 * length s - 1) × (9 < digit_at s k))
  digits_fail h =
      let w = list_fails (z_digits s) h in
      let q : w.0 < 2 * length s - 1 = omega (arith, digits_count s, w.1.0) in
      (w.0, (q, omega (arith, digit_at_lem s w.0 q, w.1.1)))

  pub hold : ((k : ℕ) → k < 2 * length s - 1 → digit_at s k ≤ 9) → are_digits (z_digits s) ≡ true
  unfolding are_digits
  hold h =
      and_from_places are_digits (λ (d : ℕ). ltb d 10) refl (λ _ _. refl) (z_digits s) 0 (λ k q.
      let i : k < 2 * length s - 1 = omega (arith, digits_count s) in
      lt-ltb _ 10 (omega (arith, digit_at_lem s k i, h k i)))

  pub fail : (k : ℕ) → k < 2 * length s - 1 → 9 < digit_at s k → are_digits (z_digits s) ≡ false
  unfolding are_digits
  fail k q h =
      let i : k < length (z_digits s) = omega (arith, digits_count s) in
      and_fails_at are_digits (λ (d : ℕ). ltb d 10) refl (λ _ _. refl) (z_digits s) k 0 i (le-ltb _ 10 (omega (arith, digit_at_lem s k q)))

-- the last byte's digit
pub last_digit : (s : List ℕ) (k : ℕ) → are_digits (z_digits s) ≡ true → k + 1 ≡ length s → get_or s k 0 / 16 < 10
last_digit s k h e =
    let even : 2 * k % 2 ≡ 0 = omega arith in
    let half : 2 * k / 2 ≡ k = omega arith in
    let d : digit_at s (2 * k) ≡ get_or s k 0 / 16 = rw (eq-eqb (2 * k % 2) 0 even, half) in
    omega (arith, digits_hold s h (2 * k) (omega arith))
