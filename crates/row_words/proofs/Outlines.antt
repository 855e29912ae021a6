-- A walk by how it ends, and what is decided of the row then. Assumes nothing.
use Rattle.std.specs.Prelude.{Ok, Err}
use Prim.Native.Nat.{ℕ, ◌≤◌, ◌<◌}
use mathlib.Core.Path.{◌≡◌, refl, ap, ◌∙◌}
use mathlib.Core.List.{List, [], ◌∷◌}
use native.Mathlib.Omega.{arith}
use borrow.Author.Tests.{lt-ltb, le-ltb}
use lib.ListN.{length}
use Rattle.types.specs.declared.ColumnDescriptor.{ColumnDescriptor}
use Rattle.rules.specs.Walk.{Walk, done, short, walk_body}
use Rattle.rules.specs.Row.{refuse, accept, row_texts, walk_decision, body_decision}
use Rattle.rules.specs.Conversions.{conversions_of}
use Rattle.rules.proofs.Walks.{pieces_of}
use Rattle.piece.specs.declared.Lacking.{Lacking}
use Rattle.row_words.specs.Passes.{outline}
use Rattle.piece.specs.Texts.{texts_of}
use Rattle.piece.proofs.Texts.{texts_are}

pub is_done_lem : (n : ℕ) (w : Walk) → Ok n ≡ outline w → w ≡ done (pieces_of w) n
is_done_lem n (done ps m) h = let e : n ≡ m = cc in rw e
is_done_lem n (short x y) h = let z : ◌≡◌ {A = ℕ} 0 1 = cc in absurd (omega arith)

-- the bytes of the input that a walk uses
abbrev pub end_of : Walk → ℕ
end_of (done ps n) = n
end_of (short e a) = 0

pub done_ends : (w : Walk) → ((n : ℕ) × (Ok n ≡ outline w)) → Ok (end_of w) ≡ outline w
done_ends (done ps m) h = refl
done_ends (short x y) h = let k = h.1 in let z : ◌≡◌ {A = ℕ} 0 1 = cc in absurd (omega arith)

pub is_short_lem : (l : Lacking) (w : Walk) → Err l ≡ outline w → w ≡ short l.expected l.actual
is_short_lem l (done ps m) h = let z : ◌≡◌ {A = ℕ} 0 1 = cc in absurd (omega arith)
is_short_lem l (short p q) h = let e : l ≡ record { expected = p; actual = q } = cc in rw e

-- ---- what is decided
module _ (release : ℕ) (cs : List ColumnDescriptor) (start : ℕ) (s d : List ℕ) where
  pub decided_short : (l : Lacking) → Err l ≡ outline (walk_body cs start s) → body_decision (conversions_of release) cs start s d ≡ refuse 8 (l.expected ∷ l.actual ∷ [])
  unfolding body_decision walk_decision
  decided_short l h = rw (is_short_lem l (walk_body cs start s) h)

  module _ (n : ℕ) (h : Ok n ≡ outline (walk_body cs start s)) where
    by_texts : body_decision (conversions_of release) cs start s d ≡ walk_decision (conversions_of release) (done (pieces_of (walk_body cs start s)) n) d
    unfolding body_decision
    by_texts = ap (λ (w : Walk). walk_decision (conversions_of release) w d) (is_done_lem n (walk_body cs start s) h)

    pub decided_text : (k : ℕ) → length d < k → k ≡ length (texts_of release (walk_body cs start s)) → body_decision (conversions_of release) cs start s d ≡ refuse 9 (k ∷ [])
    unfolding walk_decision
    decided_text k l e =
        let q : k ≡ length (row_texts (conversions_of release) (pieces_of (walk_body cs start s))) = e ∙ ap length (texts_are release (walk_body cs start s)) in
        by_texts ∙ rw (← q, lt-ltb (length d) k l)

    pub decided_accepted : length (texts_of release (walk_body cs start s)) ≤ length d → body_decision (conversions_of release) cs start s d ≡ accept (pieces_of (walk_body cs start s)) n
    unfolding walk_decision
    decided_accepted l =
        by_texts ∙ rw (le-ltb (length d) (length (row_texts (conversions_of release) (pieces_of (walk_body cs start s)))) (rw (texts_are release (walk_body cs start s)) at l))
