-- What the reading as a number answers, rule by rule (statements: specs/WholeRules.antt). Assumes nothing.
--     whole_by_rule     an answer is the call's exactly where its rule holds
--     zeros_lead        zeros in front change nothing
--     written_read      a number that is written is read
use Prim.Native.Nat.{ℕ, zero, suc, ◌+◌, ◌-◌, ◌*◌, ◌^◌, ◌<◌, ◌≤◌}
use mathlib.Core.Bool.{Bool, true, false, cond}
use mathlib.Core.List.{List, [], ◌∷◌, ◌++◌}
use mathlib.Core.Logic.{inl, inr, ⊎_elim}
use mathlib.Core.Path.{◌≡◌, refl, sym, ap, ◌∙◌, subst}
use native.Mathlib.Omega.{arith}
use borrow.Author.Tests.{eq-eqb, ne_eqb, lt-ltb, le-ltb, eqb-true, eqb-false, ltb-true, ltb-false}
use lib.Dec.{T, ltb, eqb}
use lib.IntN.{ℤ, pos, neg_ℤ}
use lib.ListN.{length, replicate, length-append, length-replicate}
use lib.Signed.{le_z, lt_z}
use Rattle.refusal.specs.Refusal.{most_bytes}
use Rattle.zdecimal.specs.ZDecimal.{z_digits, z_sign_code, are_digits, Sign, plus, minus, invalid, z_sign, base10}
use Rattle.zdecimal.specs.ByPlace.{place_sum}
use Rattle.zdecimal.specs.Written.{packed_bytes}
use Rattle.zdecimal.proofs.ByPlace.{by_place, digits_hold, digits_fail, hold, fail}
use Rattle.zdecimal.proofs.Written.{ReadBack, read_back}
use Rattle.decimal.specs.Whole.{WholeTold, refused_whole, accepted_whole, in_range, ranged_answer, signed_answer, whole_answer}
use Rattle.decimal.specs.WholeRules.{OfLength, OfDigits, IsPlus, IsMinus, PackedIs, positive, negative, WithinRange, ZerosLead, WrittenRead, WholeRule, rule_6, rule_7, rule_12, rule_13, rule_14, rule_accepted, WholeByRule}

-- ---- tests and what they say

no : {A : Type 0} → ◌≡◌ {A = Bool} false true → A
no h = absurd (subst T (sym h) tt)

is_true : (t : Bool) → T t → t ≡ true
is_true true h = refl
is_true false h = absurd h

module _ (z : ℤ) where
  in_range_lem : WithinRange z → in_range z ≡ true
  in_range_lem (a, b) = rw (is_true (le_z (neg_ℤ (pos (2 ^ 63))) z) a.le, is_true (lt_z z (pos (2 ^ 63))) b.lt)

  range_in : in_range z ≡ true → WithinRange z
  range_in h = go (le_z (neg_ℤ (pos (2 ^ 63))) z) refl (lt_z z (pos (2 ^ 63))) refl
    where
      go : (t : Bool) → le_z (neg_ℤ (pos (2 ^ 63))) z ≡ t → (u : Bool) → lt_z z (pos (2 ^ 63)) ≡ u → WithinRange z
      go true p true q = (record { le = subst T (sym p) tt }, record { lt = subst T (sym q) tt })
      go true p false q = no (rw (p, q) at h)
      go false p u q = no (rw p at h)

  out_of_range : (WithinRange z → ⊥) → in_range z ≡ false
  out_of_range h = go (in_range z) refl
    where
      go : (t : Bool) → in_range z ≡ t → t ≡ false
      go true p = absurd (h (range_in p))
      go false p = refl

  range_out : in_range z ≡ false → WithinRange z → ⊥
  range_out h r = no (sym h ∙ in_range_lem r)

-- ---- signs

pub plus_sign : (n : ℕ) → IsPlus n → z_sign n ≡ plus
plus_sign n = ⊎_elim (λ e. ap z_sign e) (⊎_elim (λ e. ap z_sign e) (⊎_elim (λ e. ap z_sign e) (λ e. ap z_sign e)))

pub minus_sign : (n : ℕ) → IsMinus n → z_sign n ≡ minus
minus_sign n = ⊎_elim (λ e. ap z_sign e) (λ e. ap z_sign e)

-- a nibble from A on; a plus is no B
pub plus_codes : (n : ℕ) → IsPlus n → (0xA ≤ n) × ((n < 16) × (n ≡ 0xB → ⊥))
plus_codes n = ⊎_elim (λ e. (omega arith, (omega arith, λ b. omega arith))) (⊎_elim (λ e. (omega arith, (omega arith, λ b. omega arith))) (⊎_elim (λ e. (omega arith, (omega arith, λ b. omega arith))) (λ e. (omega arith, (omega arith, λ b. omega arith)))))

pub minus_codes : (n : ℕ) → IsMinus n → (0xA ≤ n) × (n < 16)
minus_codes n = ⊎_elim (λ e. (omega arith, omega arith)) (λ e. (omega arith, omega arith))

no_sign : (n : ℕ) → n < 0xA → z_sign n ≡ invalid
no_sign n h = rw (lt-ltb n 0xA h)

-- one of the three, with the codes that it has
data SignIs (n : ℕ) : Sign → Type 0 where
  is_plus : IsPlus n → SignIs n plus
  is_minus : IsMinus n → SignIs n minus
  is_none : n < 0xA → SignIs n invalid

sign_is : (n : ℕ) → n < 16 → SignIs n (z_sign n)
sign_is n h = at_a (ltb n 0xA) refl
  where
    above : (n ≡ 0xB → ⊥) → (n ≡ 0xD → ⊥) → 0xA ≤ n → IsPlus n
    above b d a = go (eqb n 0xA) refl (eqb n 0xC) refl (eqb n 0xE) refl
      where
        go : (t : Bool) → eqb n 0xA ≡ t → (u : Bool) → eqb n 0xC ≡ u → (v : Bool) → eqb n 0xE ≡ v → IsPlus n
        go true p u q v r = inl (eqb-true n 0xA p)
        go false p true q v r = inr (inl (eqb-true n 0xC q))
        go false p false q true r = inr (inr (inl (eqb-true n 0xE r)))
        go false p false q false r =
            let x = eqb-false n 0xA p in
            let y = eqb-false n 0xC q in
            let z = eqb-false n 0xE r in
            inr (inr (inr (omega arith)))

    at_d : (t : Bool) → eqb n 0xD ≡ t → (n ≡ 0xB → ⊥) → 0xA ≤ n → SignIs n (cond t minus plus)
    at_d true p b a = is_minus (inr (eqb-true n 0xD p))
    at_d false p b a = is_plus (above b (eqb-false n 0xD p) a)

    at_b : (t : Bool) → eqb n 0xB ≡ t → 0xA ≤ n → SignIs n (cond t minus (cond (eqb n 0xD) minus plus))
    at_b true p a = is_minus (inl (eqb-true n 0xB p))
    at_b false p a = at_d (eqb n 0xD) refl (eqb-false n 0xB p) a

    at_a : (t : Bool) → ltb n 0xA ≡ t → SignIs n (cond t invalid (cond (eqb n 0xB) minus (cond (eqb n 0xD) minus plus)))
    at_a true p = is_none (ltb-true n 0xA p)
    at_a false p = at_b (eqb n 0xB) refl (ltb-false n 0xA p)

-- ---- the rules

module _ (scale : ℕ) (s : List ℕ) where
  outside : (z : ℤ) → (WithinRange z → ⊥) → ranged_answer scale z ≡ refused_whole 14
  unfolding ranged_answer
  outside z r = rw (out_of_range z r)

  inside : (z : ℤ) → WithinRange z → ranged_answer scale z ≡ accepted_whole scale z
  unfolding ranged_answer
  inside z r = rw (in_range_lem z r)

  total : base10 (z_digits s) ≡ place_sum s
  total = (by_place s).total

  -- what is answered where the length is within its limits and all digits are digits
  past_digits : OfLength s → are_digits (z_digits s) ≡ true → whole_answer scale s ≡ signed_answer scale (place_sum s) (z_sign (z_sign_code s))
  unfolding whole_answer
  past_digits (a, b) d = rw (ne_eqb (length s) 0 (λ e. omega arith), le-ltb most_bytes (length s) b, d, total)

  ruled : (t : WholeTold) → WholeRule scale s t → t ≡ whole_answer scale s
  unfolding whole_answer
  ruled t (rule_6 h) = sym (rw (eq-eqb (length s) 0 h))
  ruled t (rule_7 h) = sym (rw (ne_eqb (length s) 0 (λ e. omega arith), lt-ltb most_bytes (length s) h))
  ruled t (rule_12 (a, b) k q h) = sym (rw (ne_eqb (length s) 0 (λ e. omega arith), le-ltb most_bytes (length s) b, fail s k q h))
  ruled t (rule_13 l d h) = sym (past_digits l (hold s d) ∙ ap (signed_answer scale (place_sum s)) (no_sign (z_sign_code s) h))
  ruled t (rule_14 l d (positive p) r) = sym (past_digits l (hold s d) ∙ ap (signed_answer scale (place_sum s)) (plus_sign (z_sign_code s) p) ∙ outside (pos (place_sum s)) r)
  ruled t (rule_14 l d (negative p) r) = sym (past_digits l (hold s d) ∙ ap (signed_answer scale (place_sum s)) (minus_sign (z_sign_code s) p) ∙ outside (neg_ℤ (pos (place_sum s))) r)
  ruled t (rule_accepted l d (positive p) r) = sym (past_digits l (hold s d) ∙ ap (signed_answer scale (place_sum s)) (plus_sign (z_sign_code s) p) ∙ inside (pos (place_sum s)) r)
  ruled t (rule_accepted l d (negative p) r) = sym (past_digits l (hold s d) ∙ ap (signed_answer scale (place_sum s)) (minus_sign (z_sign_code s) p) ∙ inside (neg_ℤ (pos (place_sum s))) r)

  rule : WholeRule scale s (whole_answer scale s)
  unfolding whole_answer ranged_answer
  rule = at_6 (eqb (length s) 0) refl
    where
      at_14 : OfLength s → OfDigits s → {z : ℤ} → PackedIs s z → (t : Bool) → in_range z ≡ t → WholeRule scale s (cond t (accepted_whole scale z) (refused_whole 14))
      at_14 l d {z} n true p = rule_accepted l d n (range_in z p)
      at_14 l d {z} n false p = rule_14 l d n (range_out z p)

      at_13 : OfLength s → OfDigits s → (g : Sign) → SignIs (z_sign_code s) g → WholeRule scale s (signed_answer scale (place_sum s) g)
      at_13 l d _ (is_plus p) = at_14 l d (positive p) (in_range (pos (place_sum s))) refl
      at_13 l d _ (is_minus p) = at_14 l d (negative p) (in_range (neg_ℤ (pos (place_sum s)))) refl
      at_13 l d _ (is_none p) = rule_13 l d p

      at_12 : OfLength s → (t : Bool) → are_digits (z_digits s) ≡ t → WholeRule scale s (cond t (signed_answer scale (base10 (z_digits s)) (z_sign (z_sign_code s))) (refused_whole 12))
      at_12 l true p = rw total (at_13 l (digits_hold s p) (z_sign (z_sign_code s)) (sign_is (z_sign_code s) (omega arith)))
      at_12 l false p = let w = digits_fail s p in rule_12 l w.0 w.1.0 w.1.1

      at_7 : 0 < length s → (t : Bool) → ltb most_bytes (length s) ≡ t
          → WholeRule scale s (cond t (refused_whole 7) (cond (are_digits (z_digits s)) (signed_answer scale (base10 (z_digits s)) (z_sign (z_sign_code s))) (refused_whole 12)))
      at_7 l true p = rule_7 (ltb-true most_bytes (length s) p)
      at_7 l false p = at_12 (l, ltb-false most_bytes (length s) p) (are_digits (z_digits s)) refl

      at_6 : (t : Bool) → eqb (length s) 0 ≡ t
          → WholeRule scale s (cond t (refused_whole 6) (cond (ltb most_bytes (length s)) (refused_whole 7) (cond (are_digits (z_digits s)) (signed_answer scale (base10 (z_digits s)) (z_sign (z_sign_code s))) (refused_whole 12))))
      at_6 true p = rule_6 (eqb-true (length s) 0 p)
      at_6 false p = let e = eqb-false (length s) 0 p in at_7 (omega arith) (ltb most_bytes (length s)) refl

pub whole_by_rule : WholeByRule
whole_by_rule scale s t = (ruled scale s t, λ e. subst (WholeRule scale s) (sym e) (rule scale s))

-- ---- zeros in front

zero_leads : (scale : ℕ) (s : List ℕ) → 0 < length s → suc (length s) ≤ most_bytes → whole_answer scale (0 ∷ s) ≡ whole_answer scale s
unfolding whole_answer z_digits are_digits base10
zero_leads scale [] h k = let z : ⊥ = omega arith in absurd z
zero_leads scale (c ∷ s) h k =
    let n : ℕ = length s in
    let e : suc (suc n) - 1 ≡ suc n = omega arith in
    let f : suc n - 1 ≡ n = omega arith in
    let d : List ℕ = z_digits (c ∷ s) in
    let b : 0 * 10 ^ suc (length d) + (0 * 10 ^ length d + base10 d) ≡ base10 d = omega arith in
    rw (
      ne_eqb (suc (suc n)) 0 (λ q. omega arith),
      ne_eqb (suc n) 0 (λ q. omega arith),
      le-ltb most_bytes (suc (suc n)) k,
      le-ltb most_bytes (suc n) (omega arith),
      e,
      f,
      b,
    )

pub zeros_lead : ZerosLead
zeros_lead scale s zero h k = refl
zeros_lead scale s (suc j) h k =
    let l : length (replicate j 0 ++ s) ≡ j + length s = simp (length-append, length-replicate) in
    zero_leads scale (replicate j 0 ++ s) (omega arith) (omega arith) ∙ zeros_lead scale s j h (omega arith)

-- ---- what is written

module _ (scale n m g : ℕ) (a : n < 128) (w : ReadBack n m g) where
  written_answer : (q : Sign) → z_sign g ≡ q → whole_answer scale (packed_bytes n m g) ≡ signed_answer scale m q
  unfolding whole_answer
  written_answer q e =
      let s : List ℕ = packed_bytes n m g in
      let l : length s ≡ n + 1 = w.bytes in
      rw (ne_eqb (length s) 0 (λ z. omega arith), le-ltb most_bytes (length s) (omega arith), w.valid, w.magnitude, w.sign, e)

pub written_read : WrittenRead
written_read scale n m g a h = (
  λ p. written_answer scale n m g a (read_back n m g h (plus_codes g p).1.0) plus (plus_sign g p),
  λ p. written_answer scale n m g a (read_back n m g h (minus_codes g p).1) minus (minus_sign g p),
)
