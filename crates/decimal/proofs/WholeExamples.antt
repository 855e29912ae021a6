-- Worked examples of packed decimals as numbers. Assumes nothing.
use Prim.Native.Nat.{ℕ, ◌-◌, ◌^◌}
use mathlib.Core.List.{List, [], ◌∷◌, ◌++◌}
use mathlib.Core.Path.{◌≡◌, refl}
use lib.IntN.{pos, neg_ℤ}
use lib.ListN.{replicate}
use Rattle.zdecimal.specs.ZDecimal.{z_digits, are_digits, base10}
use Rattle.decimal.specs.Whole.{refused_whole, accepted_whole, ranged_answer, whole_answer}

-- the 18 digits with which 2 ^ 63 - 1 and 2 ^ 63 begin, 9223372036854775807 and 9223372036854775808
abbrev before_last : List ℕ
before_last = 0x92 ∷ 0x23 ∷ 0x37 ∷ 0x20 ∷ 0x36 ∷ 0x85 ∷ 0x47 ∷ 0x75 ∷ 0x80 ∷ []

pub record Examples : Type 0 where
  -- a pile height of 123.45 mm, in hundredths; 12345 with each sign
  pub C : whole_answer 2 (0x12 ∷ 0x34 ∷ 0x5C ∷ []) ≡ accepted_whole 2 (pos 12345)
  pub A : whole_answer 2 (0x12 ∷ 0x34 ∷ 0x5A ∷ []) ≡ accepted_whole 2 (pos 12345)
  pub E : whole_answer 2 (0x12 ∷ 0x34 ∷ 0x5E ∷ []) ≡ accepted_whole 2 (pos 12345)
  pub F : whole_answer 2 (0x12 ∷ 0x34 ∷ 0x5F ∷ []) ≡ accepted_whole 2 (pos 12345)
  pub D : whole_answer 2 (0x12 ∷ 0x34 ∷ 0x5D ∷ []) ≡ accepted_whole 2 (neg_ℤ (pos 12345))
  -- minus here, plus in the text
  pub B : whole_answer 2 (0x12 ∷ 0x34 ∷ 0x5B ∷ []) ≡ accepted_whole 2 (neg_ℤ (pos 12345))
  pub minus_zero : whole_answer 0 (0x0D ∷ []) ≡ accepted_whole 0 (pos 0)
  pub minus_zero_B : whole_answer 0 (0x0B ∷ []) ≡ accepted_whole 0 (pos 0)
  -- no bytes, and 129 of them
  pub no_bytes : whole_answer 3 [] ≡ refused_whole 6
  pub too_long : whole_answer 3 (replicate 128 0 ++ (0x0C ∷ [])) ≡ refused_whole 7
  -- a digit above 9 comes before a wrong sign, and that before the range
  pub digit_first : whole_answer 0 (0x1A ∷ 0x00 ∷ []) ≡ refused_whole 12
  pub sign_first : whole_answer 0 (before_last ++ (0x99 ∷ 0x99 ∷ 0x91 ∷ [])) ≡ refused_whole 13
  -- the range's ends
  pub greatest : whole_answer 0 (before_last ++ (0x7C ∷ [])) ≡ accepted_whole 0 (pos (2 ^ 63 - 1))
  pub too_great : whole_answer 0 (before_last ++ (0x8C ∷ [])) ≡ refused_whole 14
  pub least : whole_answer 0 (before_last ++ (0x8D ∷ [])) ≡ accepted_whole 0 (neg_ℤ (pos (2 ^ 63)))
  pub too_small : whole_answer 0 (before_last ++ (0x9D ∷ [])) ≡ refused_whole 14
  -- 255 digits, of which 254 are zeros in front
  pub zeros_in_front : whole_answer 0 (replicate 127 0 ++ (0x7D ∷ [])) ≡ accepted_whole 0 (neg_ℤ (pos 7))
  -- 255 nines
  pub nines : whole_answer 0 (replicate 127 0x99 ++ (0x9C ∷ [])) ≡ refused_whole 14

pub examples : Examples
unfolding whole_answer ranged_answer z_digits are_digits base10
examples =
    record {
      C = refl;
      A = refl;
      E = refl;
      F = refl;
      D = refl;
      B = refl;
      minus_zero = refl;
      minus_zero_B = refl;
      no_bytes = refl;
      too_long = refl;
      digit_first = refl;
      sign_first = refl;
      greatest = refl;
      too_great = refl;
      least = refl;
      too_small = refl;
      zeros_in_front = refl;
      nines = refl;
    }
