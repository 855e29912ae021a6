-- What the reading of a packed decimal as a number answers: N5b, N5c, refusals 6, 7 and 12 to 14; by z/Architecture alone (crates/zdecimal), in integers without bounds. Assumes nothing.
use Rattle.std.specs.Prelude.{ℕ, ◌^◌, Bool, cond, ◌&&◌, List, [], ltb, eqb, ℤ, pos, neg_ℤ, length, Result, Ok, Err}
use Rattle.std.specs.Int.Signed.{le_z, lt_z}
use Rattle.refusal.specs.declared.Refusal.{Refusal}
use Rattle.refusal.specs.Refusal.{Told, accepted, refused, refusal_number, refusal_values, most_bytes}
use Rattle.zdecimal.specs.ZDecimal.{z_digits, z_sign_code, are_digits, Sign, plus, minus, invalid, z_sign, base10}
use Rattle.decimal.specs.declared.WholeNumber.{WholeNumber}

-- an answer by the rules' numbers: what is said of the input, the number, and its scale
pub record WholeTold : Type 0 where
  pub outcome : Told
  pub number : ℤ
  pub scale : ℕ

abbrev pub told_whole : Result WholeNumber Refusal → WholeTold
told_whole (Ok w) = record { outcome = accepted; number = w.number; scale = w.scale }
told_whole (Err r) = record { outcome = refused (refusal_number r) (refusal_values r); number = pos 0; scale = 0 }

abbrev pub refused_whole : ℕ → WholeTold
refused_whole n = record { outcome = refused n []; number = pos 0; scale = 0 }

abbrev pub accepted_whole : ℕ → ℤ → WholeTold
accepted_whole scale z = record { outcome = accepted; number = z; scale = scale }

-- the signed 64-bit range
abbrev pub in_range : ℤ → Bool
in_range z = le_z (neg_ℤ (pos (2 ^ 63))) z && lt_z z (pos (2 ^ 63))

-- refusal 14: the number z is outside of it
unfoldable pub ranged_answer : ℕ → ℤ → WholeTold
ranged_answer scale z = cond (in_range z) (accepted_whole scale z) (refused_whole 14)

-- m, which the digits make, with a sign. Refusal 13: there is none
abbrev pub signed_answer : ℕ → ℕ → Sign → WholeTold
signed_answer scale m plus = ranged_answer scale (pos m)
signed_answer scale m minus = ranged_answer scale (neg_ℤ (pos m))
signed_answer scale m invalid = refused_whole 13

-- For the bytes s. Refusal 6: no bytes. Refusal 7: more than 128. Refusal 12: a digit above 9.
unfoldable pub whole_answer : ℕ → List ℕ → WholeTold
whole_answer scale s =
    cond (eqb (length s) 0) (refused_whole 6) (cond (ltb most_bytes (length s)) (refused_whole 7)
    (cond (are_digits (z_digits s)) (signed_answer scale (base10 (z_digits s)) (z_sign (z_sign_code s))) (refused_whole 12)))
