-- The row call again, on the text buffer that it left: the same answer, and the buffer stays. Assumes nothing.
use Prim.Native.Nat.{ℕ, ◌≤◌}
use mathlib.Core.Path.{◌≡◌, refl, ap, ◌∙◌}
use mathlib.Core.Bool.{Bool, true, false, cond}
use mathlib.Core.List.{List, [], ◌∷◌}
use lib.ListN.{length}
use lib.Dec.{ltb}
use native.Mathlib.Omega.{arith}
use Rattle.buffer.proofs.Writing.{over}
use Rattle.types.specs.declared.Columns.{Columns}
use Rattle.rules.specs.Walk.{Cell, Walk, done, short, walk_body, walk_row, skip_of}
use Rattle.rules.specs.Row.{Decision, refuse, accept, row_texts, covered, walk_decision, body_decision, row_decision, answer_of, text_after, text_with, refused_row}
use Rattle.rules.specs.Meaning.{Conversions}
use Rattle.conversion.specs.Conversion.{is_release}
use Rattle.rules.specs.Conversions.{conversions_of, row_answer, row_text}
use Rattle.rules.proofs.Walks.{pieces_of}
use Rattle.rules.proofs.Demand3.{facts}
use Rattle.rules.proofs.Accepted.{same_length_lem}

-- of a text buffer only its length decides
walked_alike : (L : Conversions) (w : Walk) (d e : List ℕ) → length d ≡ length e → walk_decision L w d ≡ walk_decision L w e
unfolding walk_decision
walked_alike L (short x y) d e h = refl
walked_alike L (done ps n) d e h =
    ap (λ (k : ℕ). cond (ltb k (length (row_texts L ps))) (refuse 9 (length (row_texts L ps) ∷ [])) (accept ps n)) h

decided_alike : (L : Conversions) (columns : Columns) (s d e : List ℕ) → length d ≡ length e → row_decision L columns s d ≡ row_decision L columns s e
unfolding row_decision body_decision
decided_alike L columns s d e h = rw (walked_alike L (walk_body (covered columns) (skip_of s) s) d e h)

pub answered_alike : (release : ℕ) (columns : Columns) (s d e : List ℕ) → length d ≡ length e → row_answer release columns s d ≡ row_answer release columns s e
unfolding row_answer
answered_alike release columns s d e h =
    ap (λ (x : Decision). cond (is_release release) (answer_of (conversions_of release) x) (refused_row 22 [])) (decided_alike (conversions_of release) columns s d e h)

module _ (L : Conversions) (columns : Columns) (s d : List ℕ) where
  room : (ps : List Cell) (n : ℕ) → row_decision L columns s d ≡ accept ps n → length (row_texts L ps) ≤ length d
  unfolding answer_of
  room ps n e =
      let f = facts L columns s d (ap (λ (x : Decision). (answer_of L x).outcome) e) in
      let same : ps ≡ pieces_of (walk_row (covered columns) s) = let decided = f.decided in cc in
      rw same f.room

  left : (x : Decision) → row_decision L columns s d ≡ x → text_after L x (text_after L x d) ≡ text_after L x d
  unfolding text_after
  left (refuse n vs) e = refl
  left (accept ps n) e = over (row_texts L ps) (row_texts L ps) d (omega arith) (room ps n e)

  left_with : length (text_with L columns s d) ≡ length d → text_with L columns s (text_with L columns s d) ≡ text_with L columns s d
  left_with h =
      let x = row_decision L columns s d in
      ap (λ (y : Decision). text_after L y (text_after L x d)) (decided_alike L columns s (text_after L x d) d h) ∙ left x refl

pub left_again : (release : ℕ) (columns : Columns) (s d : List ℕ) → row_text release columns s (row_text release columns s d) ≡ row_text release columns s d
unfolding row_text
left_again release columns s d = go (is_release release) (same_length_lem release columns s d)
  where
    L : Conversions
    L = conversions_of release

    go : (x : Bool) → length (cond x (text_with L columns s d) d) ≡ length d
        → cond x (text_with L columns s (cond x (text_with L columns s d) d)) (cond x (text_with L columns s d) d) ≡ cond x (text_with L columns s d) d
    go true h = left_with L columns s d h
    go false h = refl
