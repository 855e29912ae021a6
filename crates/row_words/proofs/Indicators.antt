-- A column's indicator, by the column's first word: whether it has one, and what stands before its value. Assumes nothing.
use Prim.Native.Nat.{ℕ, ◌≤◌}
use mathlib.Core.Path.{◌≡◌, refl, sym, ap, ◌∙◌}
use mathlib.Core.Bool.{Bool, cond}
use mathlib.Core.List.{List}
use Rattle.types.specs.Places.{blank_value}
use Rattle.rules.specs.Walk.{absent}
use Rattle.rules.specs.Row.{cell_value}
use Rattle.rules.specs.Conversions.{conversions_of}
use Rattle.piece.specs.Piece.{is_null}
use Rattle.piece.proofs.PieceLaws.{lead_of}
use Rattle.words.specs.Reading.{column_named}
use Rattle.row_words.specs.Passes.{is_nullable, words_set, three_set}

pub at_most : {n m k : ℕ} → n ≡ m → m ≤ k → n ≤ k
at_most e h = rw e h

-- Null is three zeros
pub absent_words : (release : ℕ) (v : List ℕ) (q next : ℕ) → words_set v q 0 0 0 ≡ three_set v q (cell_value (conversions_of release) absent next)
unfolding cell_value blank_value
absent_words release v q next = refl

module _ (a b : ℕ) where
  named_nullable : (column_named a b).nullable ≡ is_nullable a
  unfolding column_named
  named_nullable = refl

  -- x is what the word says of the indicator
  module _ (x : Bool) (e : x ≡ is_nullable a) where
    -- y is the test of the rest s, and says z
    pub null_named : (s : List ℕ) (y z : Bool) → y ≡ is_null x s → y ≡ z → is_null (column_named a b).nullable s ≡ z
    null_named s y z f g = ap (λ (n : Bool). is_null n s) (named_nullable ∙ sym e) ∙ sym f ∙ g

    pub lead_named : (n : ℕ) → n ≡ cond x 1 0 → n ≡ lead_of (column_named a b)
    lead_named n f = f ∙ ap (λ (y : Bool). cond y 1 0) (e ∙ sym named_nullable)
