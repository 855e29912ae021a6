-- What is told of a row at each way out: the outcome, the words of values and the text buffer, by what is decided. Assumes nothing.
use Prim.Native.Nat.{ℕ}
use mathlib.Core.Path.{◌≡◌, refl, ap, ◌∙◌}
use mathlib.Core.List.{List}
use lib.ListN.{length}
use Rattle.types.specs.declared.ColumnDescriptor.{ColumnDescriptor}
use Rattle.rules.specs.Walk.{skip_of, walk_body}
use Rattle.rules.specs.Row.{body_decision, text_after}
use Rattle.rules.specs.Conversions.{conversions_of}
use Rattle.rules.proofs.Walks.{pieces_of}
use Rattle.std.specs.Prelude.{Some, None, Result, Ok, Err}
use Rattle.std.specs.Result.{IsErrAnd}
use Rattle.piece.specs.declared.Lacking.{Lacking}
use Rattle.row_words.specs.declared.Taken.{Taken}
use Rattle.row_words.specs.declared.RowError.{RowError}
use Rattle.row_words.specs.declared.RowError.TheVariants.{TooShort, TextTooShort}
use Rattle.row_words.specs.Rows.{values_after}
use Rattle.row_words.specs.Passes.{outline, Says}
use Rattle.piece.specs.Texts.{texts_of, replaced_of, needed_beyond}
use Rattle.piece.proofs.Texts.{texts_are, replaced_are, needed_more, needed_fits}
use Rattle.row_words.proofs.Outlines.{decided_short, decided_text, decided_accepted}

-- the answer that is returned at once where a walk tells what is lacking
pub lacking_is : (r : Result Taken RowError) (l : Lacking) → IsErrAnd r (λ e. e ≡ TooShort l.expected l.actual) → Err (TooShort l.expected l.actual) ≡ r
lacking_is (Ok t) l h = absurd h
lacking_is (Err e) l h = cc

module _ (release : ℕ) (cs : List ColumnDescriptor) (s d v : List ℕ) where
  abbrev pub Told : Result Taken RowError → List ℕ → List ℕ → Type 0
  Told o words out =
      Says release o (body_decision (conversions_of release) cs (skip_of s) s d)
      × ((words ≡ values_after release (body_decision (conversions_of release) cs (skip_of s) s d) v) × (out ≡ text_after (conversions_of release) (body_decision (conversions_of release) cs (skip_of s) s d) d))

  module _ (start : ℕ) (q : start ≡ skip_of s) where
    pub told_short : (l : Lacking) → Err l ≡ outline (walk_body cs start s) → Told (Err (TooShort l.expected l.actual)) v d
    unfolding text_after
    told_short l h = rw (← q, decided_short release cs start s d l h) (refl, (refl, refl))

    module _ (n : ℕ) (h : Ok n ≡ outline (walk_body cs start s)) where
      pub told_text_lem : (k : ℕ) → Some k ≡ needed_beyond (length d) (texts_of release (walk_body cs start s)) → Told (Err (TextTooShort k)) v d
      unfolding text_after
      told_text_lem k e =
          let b = needed_more (length d) k (texts_of release (walk_body cs start s)) e in
          rw (← q, decided_text release cs start s d n h k (rw (← b.1) at b.0) b.1) (refl, (refl, refl))

      pub told_accepted : None ≡ needed_beyond (length d) (texts_of release (walk_body cs start s)) → (m : ℕ) → m ≡ length (texts_of release (walk_body cs start s)) → (r : ℕ) → r ≡ replaced_of release (walk_body cs start s)
          → (words out : List ℕ) → words ≡ values_after release (body_decision (conversions_of release) cs start s d) v → out ≡ text_after (conversions_of release) (body_decision (conversions_of release) cs start s d) d → Told (Ok (record { used = n; written = m; replaced = r })) words out
      told_accepted e m w r x words out f g =
          let a = decided_accepted release cs start s d n h (needed_fits (length d) (texts_of release (walk_body cs start s)) e) in
          rw (← q) ((pieces_of (walk_body cs start s), (a, (w ∙ ap length (texts_are release (walk_body cs start s)), x ∙ replaced_are release (walk_body cs start s)))), (f, g))
