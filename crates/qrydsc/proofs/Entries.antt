-- What an entry answers, by what is tested. Assumes nothing.
use mathlib.Core.Path.{◌≡◌, refl, ap, ◌∙◌}
use mathlib.Core.Bool.{Bool, true, false, cond, ◌&&◌}
use mathlib.Core.List.{List, []}
use Prim.Native.Nat.{ℕ, ◌≤◌, ◌<◌}
use lib.Dec.{ltb}
use lib.ListN.{length}
use borrow.Author.Tests.{lt-ltb, le-ltb}
use Rattle.triplets.specs.Triplets.{breaks_off}
use Rattle.triplets.specs.Descriptors.{columns_of}
use Rattle.triplets.specs.Steps.{end_from}
use Rattle.triplets.proofs.StepLaws.{breaks_before}
use Rattle.std.specs.Prelude.{Err}
use Rattle.refusal.specs.declared.Refusal.{Refusal}
use Rattle.refusal.specs.declared.Refusal.TheVariants.{QrydscBrokenOff, TooManyColumns}
use Rattle.refusal.specs.Refusal.{refusal_number, refusal_values}
use Rattle.qrydsc.specs.Qrydsc.{told_description, DescriptionTold, refused_description, list_answer, max_qrydsc, description, whole_description}
use Rattle.qrydsc.specs.Entries.{entry_answer, full_answer}

pub too_long : (whole : Bool) (s : List ℕ) → max_qrydsc < length s → refused_description 1 [] ≡ entry_answer whole s
unfolding description whole_description
too_long true s h = rw (lt-ltb max_qrydsc (length s) h)
too_long false s h = rw (lt-ltb max_qrydsc (length s) h)

-- the same within the length limit, where b says whether the description breaks off
abbrev pub answer_within : Bool → Bool → List ℕ → DescriptionTold
answer_within whole b s = cond whole (cond b (refused_description 15 []) (list_answer false (columns_of s))) (list_answer b (columns_of s))

pub within_limit : (whole : Bool) (s : List ℕ) → length s ≤ max_qrydsc → answer_within whole (breaks_off s) s ≡ entry_answer whole s
unfolding description whole_description
within_limit true s h = rw (le-ltb max_qrydsc (length s) h)
within_limit false s h = rw (le-ltb max_qrydsc (length s) h)

-- ---- more columns than a list holds

pub full_entry : (whole : Bool) (s : List ℕ) → length s ≤ max_qrydsc → ((b : Bool) → refused_description 2 [] ≡ list_answer b (columns_of s))
    → full_answer whole (end_from s 0) (length s) ≡ entry_answer whole s
unfolding full_answer
full_entry true s short full = rw (breaks_before s) (ap (cond (breaks_off s) (refused_description 15 [])) (full false) ∙ within_limit true s short)
full_entry false s short full = full (breaks_off s) ∙ within_limit false s short

pub told_full : (whole : Bool) (at n : ℕ) (r : Refusal) → r ≡ cond (whole && ltb at n) QrydscBrokenOff TooManyColumns
    → refused_description (refusal_number r) (refusal_values r) ≡ full_answer whole at n
unfolding full_answer
told_full whole at n r e = rw e (go (whole && ltb at n))
  where
    go : (b : Bool) → told_description (Err (cond b QrydscBrokenOff TooManyColumns)) ≡ cond b (refused_description 15 []) (refused_description 2 [])
    go true = refl
    go false = refl
