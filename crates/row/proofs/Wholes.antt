-- A walk that is done, and what is decided of it. Assumes nothing.
use Rattle.std.specs.Prelude.{Option, Some, None}
use Prim.Native.Nat.{ℕ, ◌≤◌, ◌<◌}
use mathlib.Core.Path.{◌≡◌, refl, sym, ap, ◌∙◌}
use mathlib.Core.List.{List, [], ◌∷◌}
use lib.ListN.{length}
use borrow.Author.Tests.{lt-ltb, le-ltb}
use Rattle.types.specs.declared.ColumnDescriptor.{ColumnDescriptor}
use Rattle.rules.specs.Walk.{Cell, Walk, done, short, walk_body}
use Rattle.rules.specs.Row.{row_texts, refuse, accept, walk_decision, body_decision}
use Rattle.rules.specs.Conversions.{conversions_of}
use Rattle.rules.proofs.Walks.{pieces_of}
use Rattle.rules.proofs.Progress.{Walking, walking_end}
use Rattle.row.specs.Whole.{Whole}

-- an answer that is no number
pub none_left : (r : Option ℕ) → ((k : ℕ) → r ≡ Some k → ⊥) → r ≡ None
none_left (Some k) h = absurd (h k refl)
none_left None h = refl

pub whole_is : {w : Walk} {end : ℕ} → Whole w end → w ≡ done (pieces_of w) end
whole_is {w} {end} h = h.is ∙ ap (λ (ps : List Cell). done ps end) (sym (ap pieces_of h.is))

-- the bytes of the input that a walk uses
abbrev pub end_of : Walk → ℕ
end_of (done ps n) = n
end_of (short e a) = 0

pub whole_ends : (w : Walk) → ((end : ℕ) × Whole w end) → Whole w (end_of w)
whole_ends w h = record { cells = pieces_of w; is = whole_is h.1 ∙ ap (done (pieces_of w)) (sym (ap end_of (whole_is h.1))) }

pub whole_done : (w : Walk) → ((end : ℕ) × Whole w end) → w ≡ done (pieces_of w) (end_of w)
whole_done w h = whole_is (whole_ends w h)

pub whole_walk : (cs : List ColumnDescriptor) (start : ℕ) (s : List ℕ) {i at : ℕ} → Walking cs start s i at → length cs ≤ i → Whole (walk_body cs start s) at
whole_walk cs start s w h = record { cells = w.passed; is = walking_end cs start s w h }

-- ---- what is decided for the text buffer d

module _ (release : ℕ) (cs : List ColumnDescriptor) (start : ℕ) (s d : List ℕ) where
  pub decided_short : {x y : ℕ} → walk_body cs start s ≡ short x y → body_decision (conversions_of release) cs start s d ≡ refuse 8 (x ∷ y ∷ [])
  unfolding body_decision walk_decision
  decided_short e = rw e

  module _ {ps : List Cell} {end : ℕ} (e : walk_body cs start s ≡ done ps end) where
    pub decided_lacking : {n : ℕ} → n ≡ length (row_texts (conversions_of release) ps) → length d < n → body_decision (conversions_of release) cs start s d ≡ refuse 9 (n ∷ [])
    unfolding body_decision walk_decision
    decided_lacking {n} q h = rw (e, ← q, lt-ltb (length d) n h)

    pub decided_accepted : length (row_texts (conversions_of release) ps) ≤ length d → body_decision (conversions_of release) cs start s d ≡ accept ps end
    unfolding body_decision walk_decision
    decided_accepted h = rw (e, le-ltb (length d) (length (row_texts (conversions_of release) ps)) h)
