-- Each exception of W9 is needed (specs/Exceptions.antt): one computed test over the table, and a law that turns it into the statement. Assumes nothing.
use Prim.Native.Nat.{ℕ}
use mathlib.Core.Path.{◌≡◌, refl, sym, ◌∙◌}
use mathlib.Core.Bool.{Bool, true, false, not, ◌&&◌, true≢false, false≢true}
use mathlib.Core.List.{List, [], ◌∷◌}
use lib.ListN.{length, take}
use lib.Dec.{leb, eqb}
use borrow.Author.Tests.{leb-true, eqb-true, eq-eqb}
use Rattle.std.proofs.lemmas.Bool.{not-true, and_parts}
use Rattle.refusal.specs.Refusal.{Told, accepted, refused, input_limit}
use Rattle.types.specs.Places.{filled, blank_value, column_list}
use Rattle.numbers.specs.Number.{unsigned}
use Rattle.conversion.specs.Conversion.{locator_text}
use Rattle.conversion.specs.Hex.{hex_text}
use Rattle.rules.specs.Extent.{is_reference, is_hex_digit, hex_digits, is_short_reference, says_header, lob_need, need}
use Rattle.rules.specs.OwnEnd.{carries_own_end, all_carry_own_end}
use Rattle.rules.specs.Meaning.{all_zero, lob_empty, header_item, lob_reference, lob_item, varying_item, lob_bytes_item, lob_char_item, item_in}
use Rattle.rules.specs.Walk.{skip_of, column_need, cell_of, cons_cell, walk, walk_body}
use Rattle.rules.specs.Value.{texts_together}
use Rattle.rules.specs.Row.{RowTold, start_of, value_of, item_text, cell_item, cell_value, row_values, row_texts, any_dec_float, walk_decision, body_decision, row_decision, answer_of}
use Rattle.rules.specs.Conversions.{row_answer}
use Rattle.rules.specs.Exceptions.{Exception, columns_in, room, exceptions, Breaks, AllBreak}

abbrev pub is_accepted : Told → Bool
is_accepted accepted = true
is_accepted (refused n vs) = false

pub is_accepted_lem : (o : Told) → is_accepted o ≡ true → o ≡ accepted
is_accepted_lem accepted e = refl
is_accepted_lem (refused n vs) e = absurd (false≢true e)

abbrev same_bytes : List ℕ → List ℕ → Bool
same_bytes [] [] = true
same_bytes [] (b ∷ t) = false
same_bytes (a ∷ s) [] = false
same_bytes (a ∷ s) (b ∷ t) = eqb a b && same_bytes s t

same_bytes_lem : (s t : List ℕ) → same_bytes s t ≡ true → s ≡ t
same_bytes_lem [] [] e = refl
same_bytes_lem [] (b ∷ t) e = absurd (false≢true e)
same_bytes_lem (a ∷ s) [] e = absurd (false≢true e)
same_bytes_lem (a ∷ s) (b ∷ t) e =
    let h = eqb-true a b (and_parts (eqb a b) (same_bytes s t) e).0 in
    let k = same_bytes_lem s t (and_parts (eqb a b) (same_bytes s t) e).1 in
    cc

-- a conjunction, split
pub record Both (a b : Bool) : Type 0 where
  pub first : a ≡ true
  pub rest : b ≡ true

pub split : (a b : Bool) → (a && b) ≡ true → Both a b
split a b e = record { first = (and_parts a b e).0; rest = (and_parts a b e).1 }

module _ (release : ℕ) (x : Exception) where
  abbrev one : RowTold
  one = row_answer release (columns_in x) x.input room

  abbrev other : RowTold
  other = row_answer release (columns_in x) x.longer_input room

  -- the test's parts, from the last
  abbrev part₇ : Bool
  part₇ = not (eqb other.used one.used)

  abbrev part₆ : Bool
  part₆ = leb (texts_together one.places) (length room) && part₇

  abbrev part₅ : Bool
  part₅ = same_bytes (take one.used x.longer_input) (take one.used x.input) && part₆

  abbrev part₄ : Bool
  part₄ = leb (length x.longer_input) input_limit && part₅

  abbrev part₃ : Bool
  part₃ = leb 1 one.used && part₄

  abbrev part₂ : Bool
  part₂ = is_accepted one.outcome && part₃

  abbrev part₁ : Bool
  part₁ = leb 2 (length x.input) && part₂

  abbrev part₀ : Bool
  part₀ = all_carry_own_end x.before && part₁

  abbrev breaks : Bool
  breaks = not (carries_own_end x.last) && part₀

  all_parts : breaks ≡ true → Breaks release x
  all_parts e =
      let p = split (not (carries_own_end x.last)) part₀ e in
      let p₀ = split (all_carry_own_end x.before) part₁ p.rest in
      let p₁ = split (leb 2 (length x.input)) part₂ p₀.rest in
      let p₂ = split (is_accepted one.outcome) part₃ p₁.rest in
      let p₃ = split (leb 1 one.used) part₄ p₂.rest in
      let p₄ = split (leb (length x.longer_input) input_limit) part₅ p₃.rest in
      let p₅ = split (same_bytes (take one.used x.longer_input) (take one.used x.input)) part₆ p₄.rest in
      let p₆ = split (leb (texts_together one.places) (length room)) part₇ p₅.rest in
      record {
        lacks_end = not-true (carries_own_end x.last) p.first;
        others_carry = p₀.first;
        accepted_row =
            record {
              two = leb-true 2 (length x.input) p₁.first;
              accepts = is_accepted_lem one.outcome p₂.first;
              one = leb-true 1 one.used p₃.first;
            };
        limit = leb-true (length x.longer_input) input_limit p₄.first;
        begins_alike = same_bytes_lem (take one.used x.longer_input) (take one.used x.input) p₅.first;
        enough = leb-true (texts_together one.places) (length room) p₆.first;
        differs = λ same. true≢false (sym (eq-eqb other.used one.used same.used) ∙ not-true (eqb other.used one.used) p₆.rest);
      }

abbrev all_of : ℕ → List Exception → Bool
all_of release [] = true
all_of release (x ∷ xs) = breaks release x && all_of release xs

from_test : (release : ℕ) (xs : List Exception) → all_of release xs ≡ true → AllBreak release xs
from_test release [] e = tt
from_test release (x ∷ xs) e =
    (all_parts release x (and_parts (breaks release x) (all_of release xs) e).0, from_test release xs (and_parts (breaks release x) (all_of release xs) e).1)

computed : (all_of 2 exceptions && all_of 3 exceptions) ≡ true
unfolding exceptions carries_own_end all_carry_own_end row_answer answer_of row_decision body_decision walk_decision walk_body walk skip_of column_need cell_of cons_cell need lob_need is_reference says_header is_short_reference hex_digits is_hex_digit unsigned any_dec_float column_list filled blank_value row_values row_texts cell_value cell_item item_in start_of value_of item_text texts_together varying_item header_item lob_item lob_empty lob_reference lob_bytes_item lob_char_item all_zero locator_text hex_text
computed = refl

pub exceptions_break : AllBreak 2 exceptions × AllBreak 3 exceptions
exceptions_break =
    (from_test 2 exceptions (and_parts (all_of 2 exceptions) (all_of 3 exceptions) computed).0, from_test 3 exceptions (and_parts (all_of 2 exceptions) (all_of 3 exceptions) computed).1)
