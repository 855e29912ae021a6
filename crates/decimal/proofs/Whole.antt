-- What the reading as a number answers, in each of its cases. Assumes nothing.
use Prim.Native.Nat.{ℕ, zero, suc, ◌-◌, ◌^◌, ◌<◌, ◌≤◌}
use mathlib.Core.Bool.{Bool, true, false, cond}
use mathlib.Core.List.{List}
use mathlib.Core.Path.{◌≡◌, refl, sym, ap, ◌∙◌, subst}
use native.Mathlib.Omega.{arith}
use native.Mathlib.Nat.{zero-add}
use borrow.Author.Tests.{lt-ltb, le-ltb, le-leb, lt-leb, ne_eqb, ltb-false}
use lib.Dec.{ltb}
use lib.IntN.{ℤ, pos, negsuc, neg_ℤ, ◌-ℤ◌, +ℤ_idl}
use lib.ListN.{length}
use mir.Syntax.{w64}
use mir.Val.{SFits, to_z, of_z}
use mir.ValLaws.{to_z_pos, to_z-of_z}
use Rattle.std.specs.Prelude.{Option, Some, None, Result, Ok, Err}
use Rattle.std.specs.Option.{SomeIff}
use Rattle.std.specs.Result.{OkIff, result_ok}
use Rattle.refusal.specs.Refusal.{most_bytes}
use Rattle.zdecimal.specs.ZDecimal.{z_digits, z_sign_code, are_digits, z_sign, base10}
use Rattle.zdecimal.specs.Inner.{told_sign, capped}
use Rattle.zdecimal.specs.declared.Sign as coded
use Rattle.zdecimal.specs.declared.Sign.TheVariants.{Plus, Minus}
use Rattle.decimal.specs.Length.{length_checked}
use Rattle.decimal.specs.Whole.{WholeTold, refused_whole, accepted_whole, ranged_answer, signed_answer, whole_answer}
use Rattle.decimal.proofs.Length.{accepted_length}

-- ---- the range

module _ (scale n : ℕ) where
  above : 2 ^ 63 ≤ n → ranged_answer scale (pos n) ≡ refused_whole 14
  unfolding ranged_answer
  above h = rw (le-ltb n (2 ^ 63) h)

  within : n < 2 ^ 63 → ranged_answer scale (pos n) ≡ accepted_whole scale (pos n)
  unfolding ranged_answer
  within h = rw (lt-ltb n (2 ^ 63) h)

below : (scale n : ℕ) → 2 ^ 63 < n → ranged_answer scale (neg_ℤ (pos n)) ≡ refused_whole 14
unfolding ranged_answer
below scale zero h = let z : ⊥ = omega arith in absurd z
below scale (suc n) h = rw (lt-leb n (2 ^ 63 - 1) (omega arith))

within_below : (scale n : ℕ) → n ≤ 2 ^ 63 → ranged_answer scale (neg_ℤ (pos n)) ≡ accepted_whole scale (neg_ℤ (pos n))
unfolding ranged_answer
within_below scale zero h = refl
within_below scale (suc n) h = rw (le-leb n (2 ^ 63 - 1) (omega arith))

-- ---- -n as -1 - (n - 1), which is made within the range where n is 1 at least

minus_one : (k : ℕ) → negsuc 0 -ℤ pos k ≡ negsuc k
minus_one zero = refl
minus_one (suc k) = ap (λ (j : ℕ). negsuc (suc j)) (zero-add k)

negated : (n : ℕ) → (n ≡ 0 → ⊥) → negsuc (n - 1) ≡ neg_ℤ (pos n)
negated zero z = absurd (z refl)
negated (suc n) z = let e : suc n - 1 ≡ n = omega arith in ap negsuc e

module _ (n : ℕ) (z : n ≡ 0 → ⊥) (h : n ≤ 2 ^ 63) where
  below_zero : negsuc 0 -ℤ to_z w64 (n - 1) ≡ negsuc (n - 1)
  below_zero = ap (λ (y : ℤ). negsuc 0 -ℤ y) (to_z_pos w64 (n - 1) (omega (arith, z))) ∙ minus_one (n - 1)

  pub made_fits : SFits w64 (negsuc 0 -ℤ to_z w64 (n - 1))
  made_fits = subst (SFits w64) (sym below_zero) (record { sfits = omega (arith, z) })

  pub made_is : to_z w64 (of_z w64 (negsuc 0 -ℤ to_z w64 (n - 1))) ≡ neg_ℤ (pos n)
  made_is = to_z-of_z w64 _ made_fits ∙ below_zero ∙ negated n z

-- ---- what a sign and the digits' number make

-- the number that they make
abbrev pub made : coded.Sign → ℕ → ℤ
made Plus n = pos n
made Minus n = neg_ℤ (pos n)

-- an answer for it
abbrev pub told_number : ℕ → Option ℤ → WholeTold
told_number scale (Some z) = accepted_whole scale (to_z w64 (of_z w64 z))
told_number scale None = refused_whole 14

-- the range of what is made is that of 64 bits
ranged : (scale n : ℕ) (g : coded.Sign) → (SFits w64 (made g n) → ranged_answer scale (made g n) ≡ accepted_whole scale (made g n)) × ((SFits w64 (made g n) → ⊥) → ranged_answer scale (made g n) ≡ refused_whole 14)
ranged scale n Plus = (λ f. within scale n f.sfits, λ h. above scale n (omega (arith, λ (a : n < 2 ^ 63). h (record { sfits = a }))))
ranged scale zero Minus = (λ f. within_below scale 0 (omega arith), λ h. absurd (h (record { sfits = omega arith })))
ranged scale (suc n) Minus = (λ f. within_below scale (suc n) (omega (arith, f.sfits)), λ h. below scale (suc n) (omega (arith, λ (a : n < 2 ^ 63). h (record { sfits = a }))))

-- A number that is n, or is beyond the range as n is, is put into the type where n is. The code's is n itself; a program that hands on another is proved where
-- that changes no answer, and refused where it does.
pub put_in : {E : Type 0} (n m : ℕ) (r : Result ℤ E) → OkIff r (SFits w64 (pos m)) (pos m) → (n < 2 ^ 63 → m ≡ n) → (m < 2 ^ 63 → n < 2 ^ 63) → SomeIff (result_ok r) (SFits w64 (pos n)) (pos n)
put_in n m (Ok x) (f, e) a b = rw (← a (b f.sfits)) (f, e)
put_in n m (Err x) h a b = λ (f : SFits w64 (pos n)). h (rw (a f.sfits) f)

least : (m : ℕ) → SFits w64 (neg_ℤ (pos m)) → m ≤ 2 ^ 63
least zero f = omega arith
least (suc m) f = omega (arith, f.sfits)

negative : (n m : ℕ) (o : Option ℤ) → SomeIff o (SFits w64 (neg_ℤ (pos m))) (neg_ℤ (pos m)) → (n ≤ 2 ^ 63 → m ≡ n) → (m ≤ 2 ^ 63 → n ≤ 2 ^ 63) → SomeIff o (SFits w64 (neg_ℤ (pos n))) (neg_ℤ (pos n))
negative n m (Some x) (f, e) a b = rw (← a (b (least m f))) (f, e)
negative n m None h a b = λ (f : SFits w64 (neg_ℤ (pos n))). h (rw (a (least n f)) f)

-- how far a number is from 0
pub off : ℤ → ℕ
off (pos n) = n
off (negsuc n) = suc n

pub off_is : (m : ℕ) → off (pos 0 -ℤ pos m) ≡ m
unfolding off
off_is zero = refl
off_is (suc m) = ap off (+ℤ_idl (negsuc m))

pub taken_is : (m : ℕ) → pos 0 -ℤ pos m ≡ neg_ℤ (pos (off (pos 0 -ℤ pos m)))
taken_is m = +ℤ_idl (neg_ℤ (pos m)) ∙ ap (λ (k : ℕ). neg_ℤ (pos k)) (sym (off_is m))

-- the same of what is taken from 0
pub taken_off : (n : ℕ) (z : ℤ) (o : Option ℤ) → SomeIff o (SFits w64 z) z → z ≡ neg_ℤ (pos (off z)) → (n ≤ 2 ^ 63 → off z ≡ n) → (off z ≤ 2 ^ 63 → n ≤ 2 ^ 63) → SomeIff o (SFits w64 (neg_ℤ (pos n))) (neg_ℤ (pos n))
taken_off n z o h e a b = negative n (off z) o (subst (λ (y : ℤ). SomeIff o (SFits w64 y) y) e h) a b

signed_made : (scale n : ℕ) (g : coded.Sign) → signed_answer scale n (told_sign (Some g)) ≡ ranged_answer scale (made g n)
signed_made scale n Plus = refl
signed_made scale n Minus = refl

pub number_told : (scale n : ℕ) (g : coded.Sign) (o : Option ℤ) → SomeIff o (SFits w64 (made g n)) (made g n) → told_number scale o ≡ signed_answer scale n (told_sign (Some g))
number_told scale n g (Some z) (f, e) = ap (accepted_whole scale) (rw e (to_z-of_z w64 (made g n) f)) ∙ sym ((ranged scale n g).0 f) ∙ sym (signed_made scale n g)
number_told scale n g None h = sym ((ranged scale n g).1 h) ∙ sym (signed_made scale n g)

-- ten to the nineteenth stands for all that is beyond the range, on either side of it
ranged_alike : (scale : ℕ) (f : ℕ → ℤ) → ((n : ℕ) → 2 ^ 63 < n → ranged_answer scale (f n) ≡ refused_whole 14) → (n : ℕ) → ranged_answer scale (f (capped n)) ≡ ranged_answer scale (f n)
ranged_alike scale f out n = go (ltb n (10 ^ 19)) refl
  where
    go : (t : Bool) → ltb n (10 ^ 19) ≡ t → ranged_answer scale (f (cond t n (10 ^ 19))) ≡ ranged_answer scale (f n)
    go true p = refl
    go false p = out (10 ^ 19) (omega arith) ∙ sym (out n (omega (arith, ltb-false n (10 ^ 19) p)))

-- ---- the call

module _ (scale : ℕ) (s : List ℕ) (a : length_checked s ≡ Ok tt) where
  pub no_digit : false ≡ are_digits (z_digits s) → refused_whole 12 ≡ whole_answer scale s
  unfolding whole_answer
  no_digit d = let l = accepted_length s a in sym (rw (ne_eqb (length s) 0 l.0, le-ltb most_bytes (length s) l.1, sym d))

  module _ (d : true ≡ are_digits (z_digits s)) where
    by_sign : signed_answer scale (base10 (z_digits s)) (z_sign (z_sign_code s)) ≡ whole_answer scale s
    unfolding whole_answer
    by_sign = let l = accepted_length s a in sym (rw (ne_eqb (length s) 0 l.0, le-ltb most_bytes (length s) l.1, sym d))

    module _ (o : Option coded.Sign) (e : told_sign o ≡ z_sign (z_sign_code s)) where
      told : signed_answer scale (base10 (z_digits s)) (told_sign o) ≡ whole_answer scale s
      told = ap (signed_answer scale (base10 (z_digits s))) e ∙ by_sign

      pub no_sign : o ≡ None → refused_whole 13 ≡ whole_answer scale s
      no_sign h = sym (ap (λ (o : Option coded.Sign). signed_answer scale (base10 (z_digits s)) (told_sign o)) h) ∙ told

      pub signed : (g : coded.Sign) → o ≡ Some g → (m : ℕ) → m ≡ capped (base10 (z_digits s)) → signed_answer scale m (told_sign (Some g)) ≡ whole_answer scale s
      signed g h m k =
          ap (λ (n : ℕ). signed_answer scale n (told_sign (Some g))) k
          ∙ capped_alike g (base10 (z_digits s))
          ∙ sym (ap (λ (o : Option coded.Sign). signed_answer scale (base10 (z_digits s)) (told_sign o)) h) ∙ told
        where
          capped_alike : (g : coded.Sign) (n : ℕ) → signed_answer scale (capped n) (told_sign (Some g)) ≡ signed_answer scale n (told_sign (Some g))
          capped_alike Plus n = ranged_alike scale pos (λ n q. above scale n (omega arith)) n
          capped_alike Minus n = ranged_alike scale (λ (n : ℕ). neg_ℤ (pos n)) (below scale) n
