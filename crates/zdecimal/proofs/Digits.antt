-- The digits of bytes, from a byte on: what the loops over bytes go by. Assumes nothing.
use Prim.Native.Nat.{ℕ, suc, ◌+◌, ◌-◌, ◌*◌, ◌/◌, ◌%◌, ◌^◌, ◌<◌, ◌≤◌}
use mathlib.Core.Bool.{Bool, ◌&&◌}
use mathlib.Core.List.{List, [], ◌∷◌}
use mathlib.Core.Path.{◌≡◌, sym, ap, ◌∙◌}
use native.Mathlib.Omega.{arith}
use native.Mathlib.Numerals.{add-one}
use borrow.Author.Tests.{lt-ltb, le-ltb}
use lib.Dec.{ltb}
use Rattle.std.proofs.Math.Bool.{and-true, and_assoc}
use Rattle.std.specs.List.{list_all}
use lib.ListN.{length, take, drop, get_or, drop_of_length-le}
use lib.Seq.{drop-cons}
use Rattle.zdecimal.specs.ZDecimal.{z_digits, are_digits, base10}
use Rattle.zdecimal.specs.Inner.{capped}
use Rattle.zdecimal.proofs.Base10.{from, from_base10, from_grows}

module _ (s : List ℕ) (k : ℕ) where
  -- the byte k is not the last
  pub digits_next : k + 1 < length s → z_digits (drop k s) ≡ get_or s k 0 / 16 ∷ get_or s k 0 % 16 ∷ z_digits (drop (k + 1) s)
  unfolding z_digits
  digits_next h =
      let a : k < length s = omega arith in
      let b : suc k < length s = omega arith in
      rw (add-one k, drop-cons s k 0 a, drop-cons s (suc k) 0 b)

  -- it is
  pub digits_last : k + 1 ≡ length s → z_digits (drop k s) ≡ get_or s k 0 / 16 ∷ []
  unfolding z_digits
  digits_last h =
      let a : k < length s = omega arith in
      let b : length s ≤ suc k = omega arith in
      rw (drop-cons s k 0 a, drop_of_length-le s b)

-- ---- whether they are digits

-- both digits of a byte that is not the last
abbrev pub both_digits : ℕ → Bool
both_digits b = ltb (b / 16) 10 && ltb (b % 16) 10

-- those of the bytes before the last, and the last byte's
pub all_digits : (s : List ℕ) → 0 < length s
    → (list_all both_digits (take (length s - 1) s) && ltb (get_or s (length s - 1) 0 / 16) 10) ≡ are_digits (z_digits s)
unfolding z_digits are_digits
all_digits [] h = let z : ⊥ = omega arith in absurd z
all_digits (b ∷ []) h = sym (and-true (ltb (b / 16) 10))
all_digits (b ∷ c ∷ s) h =
    let e : suc (suc (length s)) - 1 ≡ suc (suc (length s) - 1) = omega arith in
    rw (e, ← all_digits (c ∷ s) (omega arith)) (simp and_assoc)

-- ---- the number that they make

-- n, and then the digits of the bytes from k on, make it
abbrev pub Makes : List ℕ → ℕ → ℕ → Type 0
Makes s n k = from n (z_digits (drop k s)) ≡ base10 (z_digits s)

pub none_made : (s : List ℕ) → Makes s 0 0
none_made s = omega (arith, from_base10 0 (z_digits s))

capped_large : (n : ℕ) → 10 ^ 19 ≤ n → 10 ^ 19 ≡ capped n
capped_large n h = rw (le-ltb n (10 ^ 19) h)

module _ (s : List ℕ) (n k : ℕ) (e : Makes s n k) where
  module _ (h : k + 1 < length s) where
    pub byte_made : (m : ℕ) → m ≡ 100 * n + (10 * (get_or s k 0 / 16) + get_or s k 0 % 16) → Makes s m (k + 1)
    unfolding from
    byte_made m q =
        let a : m ≡ 10 * (10 * n + get_or s k 0 / 16) + get_or s k 0 % 16 = omega arith in
        ap (λ (v : ℕ). from v (z_digits (drop (k + 1) s))) a ∙ sym (ap (from n) (digits_next s k h)) ∙ e

    -- with two digits more it is ten to the nineteenth at least
    pub beyond : 10 ^ 17 ≤ n → 10 ^ 19 ≡ capped (base10 (z_digits s))
    unfolding from
    beyond a =
        let v : ℕ = 10 * (10 * n + get_or s k 0 / 16) + get_or s k 0 % 16 in
        let g : v ≤ from v (z_digits (drop (k + 1) s)) = from_grows v (z_digits (drop (k + 1) s)) in
        let q : from v (z_digits (drop (k + 1) s)) ≡ base10 (z_digits s) = sym (ap (from n) (digits_next s k h)) ∙ e in
        capped_large (base10 (z_digits s)) (omega arith)

  module _ (h : k + 1 ≡ length s) where
    made : 10 * n + get_or s k 0 / 16 ≡ base10 (z_digits s)
    unfolding from
    made = sym (ap (from n) (digits_last s k h)) ∙ e

    pub beyond_at_last : 10 ^ 18 ≤ n → 10 ^ 19 ≡ capped (base10 (z_digits s))
    beyond_at_last a = capped_large (base10 (z_digits s)) (omega (arith, made))

    pub last_made : n < 10 ^ 18 → get_or s k 0 / 16 < 10 → (m : ℕ) → m ≡ 10 * n + get_or s k 0 / 16 → m ≡ capped (base10 (z_digits s))
    last_made a b m q = let c : base10 (z_digits s) < 10 ^ 19 = omega (arith, made) in q ∙ made ∙ rw (lt-ltb (base10 (z_digits s)) (10 ^ 19) c)
