-- What the length of a packed decimal decides, of both readings. Assumes nothing.
use Prim.Native.Nat.{ℕ, ◌≤◌}
use mathlib.Core.Bool.{Bool, true, false, cond}
use mathlib.Core.List.{List}
use mathlib.Core.Path.{◌≡◌, refl, ap, ◌∙◌}
use borrow.Author.Tests.{ltb-false}
use lib.Dec.{eqb, ltb}
use lib.ListN.{length}
use Rattle.std.proofs.lemmas.Bool.{eqb-false}
use Rattle.std.specs.Prelude.{Result, Ok, Err, ⊤}
use Rattle.refusal.specs.Refusal.{most_bytes}
use Rattle.refusal.specs.declared.Refusal.{Refusal}
use Rattle.refusal.specs.declared.Refusal.TheVariants.{DecimalEmpty, DecimalTooLong}
use Rattle.buffer.specs.Buffer.{told_text, text_answer, text_buffer, unreplaced}
use Rattle.packed.specs.Packed.{decimal_text}
use Rattle.decimal.specs.Decimal.{decimal_answer, decimal_buffer}
use Rattle.decimal.specs.Length.{length_checked}
use Rattle.decimal.specs.Whole.{told_whole, whole_answer}

-- f of the refusal, or a where there is none
abbrev after : {A : Type 0} → (Refusal → A) → A → Result ⊤ Refusal → A
after f a (Ok u) = a
after f a (Err r) = f r

module _ (s : List ℕ) where
  decided : {A : Type 0} (f : Refusal → A) (a : A) → cond (eqb (length s) 0) (f DecimalEmpty) (cond (ltb most_bytes (length s)) (f DecimalTooLong) a) ≡ after f a (length_checked s)
  decided {A} f a = go (eqb (length s) 0) (ltb most_bytes (length s))
    where
      go : (b t : Bool) → cond b (f DecimalEmpty) (cond t (f DecimalTooLong) a) ≡ after f a (cond b (Err DecimalEmpty) (cond t (Err DecimalTooLong) (Ok tt)))
      go true t = refl
      go false true = refl
      go false false = refl

  pub whole_refused : (scale : ℕ) (r : Refusal) → length_checked s ≡ Err r → whole_answer scale s ≡ told_whole (Err r)
  unfolding whole_answer
  whole_refused scale r e = decided (λ (q : Refusal). told_whole (Err q)) _ ∙ ap (after (λ (q : Refusal). told_whole (Err q)) _) e

  module _ (scale : ℕ) (d : List ℕ) where
    pub text_refused : (r : Refusal) → length_checked s ≡ Err r → decimal_answer scale s d ≡ told_text (Err r)
    unfolding decimal_answer
    text_refused r e = decided (λ (q : Refusal). told_text (Err q)) _ ∙ ap (after (λ (q : Refusal). told_text (Err q)) _) e

    pub text_decided : length_checked s ≡ Ok tt → decimal_answer scale s d ≡ text_answer (unreplaced (decimal_text scale s)) d
    unfolding decimal_answer
    text_decided e = decided (λ (q : Refusal). told_text (Err q)) _ ∙ ap (after (λ (q : Refusal). told_text (Err q)) _) e

    pub buffer_refused : (r : Refusal) → length_checked s ≡ Err r → decimal_buffer scale s d ≡ d
    unfolding decimal_buffer
    buffer_refused r e = decided (λ (q : Refusal). d) _ ∙ ap (after (λ (q : Refusal). d) _) e

    pub buffer_decided : length_checked s ≡ Ok tt → decimal_buffer scale s d ≡ text_buffer (decimal_text scale s) d
    unfolding decimal_buffer
    buffer_decided e = decided (λ (q : Refusal). d) _ ∙ ap (after (λ (q : Refusal). d) _) e

  pub accepted_length : length_checked s ≡ Ok tt → (length s ≡ 0 → ⊥) × (length s ≤ most_bytes)
  accepted_length = go (eqb (length s) 0) (ltb most_bytes (length s)) refl refl
    where
      go : (b t : Bool) → eqb (length s) 0 ≡ b → ltb most_bytes (length s) ≡ t → ◌≡◌ {A = Result ⊤ Refusal} (cond b (Err DecimalEmpty) (cond t (Err DecimalTooLong) (Ok tt))) (Ok tt)
          → (length s ≡ 0 → ⊥) × (length s ≤ most_bytes)
      go true t p q e = cc
      go false true p q e = cc
      go false false p q e = (eqb-false (length s) 0 p, ltb-false most_bytes (length s) q)
