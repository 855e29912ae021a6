-- The ported text and the number (statement: specs/WholeRules.antt). Assumes nothing.
--     text_denotes_whole     where a number is read, the text denotes it; with the sign B without its minus
use Prim.Native.Nat.{ℕ, zero, suc, ◌-◌, ◌*◌, ◌<◌, ◌≤◌}
use mathlib.Core.List.{List, []}
use mathlib.Core.Path.{◌≡◌, refl, sym, ap, ◌∙◌, subst}
use native.Mathlib.Omega.{arith}
use lib.IntN.{ℤ, pos, neg_ℤ, nat_abs}
use lib.ListN.{length}
use lib.Signed.{◌≤ℤ◌}
use Rattle.refusal.specs.Refusal.{accepted, refused}
use Rattle.zdecimal.specs.ZDecimal.{z_digits, z_sign_code, Sign, plus, minus, z_sign, base10}
use Rattle.zdecimal.specs.ByPlace.{place_sum}
use Rattle.zdecimal.proofs.ByPlace.{by_place}
use Rattle.packed.specs.Packed.{sign_nibble, digit_nibbles, decimal_text}
use Rattle.packed.specs.Denoted.{denoted, denotes, ValidDigits, packed_number}
use Rattle.packed.proofs.Nibbles.{sign_nibble_lem, digits_agree}
use Rattle.packed.proofs.Number.{text_denotes_z, text_denotes_B}
use Rattle.decimal.specs.Whole.{WholeTold, refused_whole, accepted_whole}
use Rattle.decimal.specs.WholeRules.{OfLength, OfDigits, PackedIs, positive, negative, WholeRule, rule_6, rule_7, rule_12, rule_13, rule_14, rule_accepted, IsAt, at_plus, at_minus, TextIs, TextDenotes}
use Rattle.decimal.proofs.WholeRules.{whole_by_rule, plus_sign, minus_sign, plus_codes, minus_codes}

-- what is known where a number is read
record Read (s : List ℕ) (z : ℤ) : Type 0 where
  long : OfLength s
  digits : OfDigits s
  is : PackedIs s z

never : {A : Type 0} (scale n : ℕ) (z : ℤ) → refused_whole n ≡ accepted_whole scale z → A
never scale n z e = let f : refused n [] ≡ accepted = ap (λ (t : WholeTold). t.outcome) e in let q : ◌≡◌ {A = ℕ} 0 1 = cc in let x : ⊥ = omega arith in absurd x

read_of : (scale : ℕ) (s : List ℕ) (z : ℤ) (t : WholeTold) → WholeRule scale s t → t ≡ accepted_whole scale z → Read s z
read_of scale s z t (rule_6 h) e = never scale 6 z e
read_of scale s z t (rule_7 h) e = never scale 7 z e
read_of scale s z t (rule_12 l k q h) e = never scale 12 z e
read_of scale s z t (rule_13 l d h) e = never scale 13 z e
read_of scale s z t (rule_14 l d n r) e = never scale 14 z e
read_of scale s z t (rule_accepted l d n r) e = record { long = l; digits = d; is = subst (PackedIs s) (ap (λ (t : WholeTold). t.number) e) n }

negated_le : (m : ℕ) → neg_ℤ (pos m) ≤ℤ pos 0
negated_le zero = record { le = tt }
negated_le (suc m) = record { le = tt }

negated_abs : (m : ℕ) → nat_abs (neg_ℤ (pos m)) ≡ m
negated_abs zero = refl
negated_abs (suc m) = refl

module _ (scale : ℕ) (s : List ℕ) (l : 0 < length s) (d : OfDigits s) where
  code : z_sign_code s ≡ sign_nibble s
  code = sign_nibble_lem s l

  agree : z_digits s ≡ digit_nibbles s
  agree = digits_agree s

  valid : ValidDigits (digit_nibbles s)
  valid = subst ValidDigits agree (λ k q. let h : k < 2 * length s - 1 = omega (arith, (by_place s).digit_count) in omega (arith, (by_place s).digit k h, d k h))

  magnitude : base10 (digit_nibbles s) ≡ place_sum s
  magnitude = sym (ap base10 agree) ∙ (by_place s).total

  -- with a sign that both take alike
  text_is : (g : Sign) → z_sign (z_sign_code s) ≡ g → 0xA ≤ z_sign_code s → (z_sign_code s ≡ 0xB → ⊥) → denotes (decimal_text scale s) ≡ denoted (packed_number g scale s)
  text_is g e a b =
      text_denotes_z scale s valid (omega (arith, code)) (λ q. b (code ∙ q))
      ∙ ap (λ (h : Sign). denoted (packed_number h scale s)) (ap z_sign (sym code) ∙ e)

  at_positive : IsAt (packed_number plus scale s) (pos (place_sum s)) scale
  at_positive = subst (λ (m : ℕ). IsAt (packed_number plus scale s) (pos m) scale) magnitude at_plus

  at_negative : IsAt (packed_number minus scale s) (neg_ℤ (pos (place_sum s))) scale
  at_negative = subst (λ (m : ℕ). IsAt (packed_number minus scale s) (neg_ℤ (pos m)) scale) magnitude at_minus

  text_whole : {z : ℤ} → PackedIs s z → (z_sign_code s ≡ 0xB → ⊥) → TextIs scale s z
  text_whole (positive p) b = (packed_number plus scale s, (text_is plus (plus_sign (z_sign_code s) p) (plus_codes (z_sign_code s) p).0 b, at_positive))
  text_whole (negative p) b = (packed_number minus scale s, (text_is minus (minus_sign (z_sign_code s) p) (minus_codes (z_sign_code s) p).0 b, at_negative))

  -- the sign B is a minus, and the text has none
  text_whole_B : {z : ℤ} → PackedIs s z → z_sign_code s ≡ 0xB
      → (z ≤ℤ pos 0) × (denotes (decimal_text scale s) ≡ denoted (record { signed = plus; magnitude = nat_abs z; fraction_digits = scale }))
  text_whole_B (positive p) b = absurd ((plus_codes (z_sign_code s) p).1.1 b)
  text_whole_B (negative p) b =
      let e : base10 (digit_nibbles s) ≡ nat_abs (neg_ℤ (pos (place_sum s))) = magnitude ∙ sym (negated_abs (place_sum s)) in (
        negated_le (place_sum s),
        (text_denotes_B scale s valid (sym code ∙ b)).0 ∙ ap (λ (m : ℕ). denoted (record { signed = plus; magnitude = m; fraction_digits = scale })) e,
      )

pub text_denotes_whole : TextDenotes
text_denotes_whole scale s z e =
    let r = read_of scale s z (accepted_whole scale z) ((whole_by_rule scale s (accepted_whole scale z)).1 e) refl in
    (text_whole scale s r.long.0 r.digits r.is, text_whole_B scale s r.long.0 r.digits r.is)
