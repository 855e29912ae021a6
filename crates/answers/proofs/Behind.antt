-- What stands behind the texts that were written into what is left of a line. Assumes nothing.
use Rattle.std.proofs.Common.{ℕ, suc, List, [], ◌∷◌, ◌++◌, length, drop, ◌≡◌, refl, sym, ap, ◌∙◌}
use mathlib.Core.List.{append_assoc, append-nil}
use native.Mathlib.Omega.{arith}
use Rattle.std.specs.List.{concat, FoldsTo}
use Rattle.std.specs.Fmt.{WritesText, WritesInCalls}
use Rattle.std.specs.Prelude.{Option, None, Some}
use Rattle.answers.specs.declared.rest.Rest.{Rest}
use Rattle.answers.specs.Lines.{IsPrinted}

abbrev pub Stood : Rest → List ℕ → Rest → Type 0
Stood before bytes after = before.0.now ≡ bytes ++ after.0.now

in_parts : (parts : List (List ℕ)) (w v : Rest) → FoldsTo Stood w parts v → w.0.now ≡ concat parts ++ v.0.now
in_parts [] w v e = ap (λ (r : Rest). r.0.now) e
in_parts (p ∷ ps) w v (j, here, later) = here ∙ ap (λ (t : List ℕ). p ++ t) (in_parts ps j v later) ∙ sym (append_assoc p (concat ps) v.0.now)

stood : (w v : Rest) (bytes : List ℕ) → WritesInCalls Stood w bytes v → w.0.now ≡ bytes ++ v.0.now
stood w v bytes calls = in_parts calls.parts w v calls.calls ∙ ap (λ (t : List ℕ). t ++ v.0.now) calls.whole

-- the first text that was written stands first
pub first_said : (w v : Rest) (bytes : List ℕ) → WritesInCalls Stood w bytes v → (rest : List ℕ) × (w.0.now ≡ bytes ++ rest)
first_said w v bytes calls = (v.0.now, stood w v bytes calls)

nil : (s : List ℕ) → length s ≡ 0 → s ≡ []
nil [] e = refl
nil (x ∷ s) e = let n : suc (length s) ≡ 0 = e in absurd (omega arith)

-- what was written is all that stood there, where nothing is left
pub all_said : (w v : Rest) (printed : Option (List ℕ)) → WritesText Stood w printed v → length v.0.now ≡ 0 → IsPrinted printed w.0.now
all_said w v None calls e = calls
all_said w v (Some text) calls e = sym (stood w v text calls ∙ ap (λ (t : List ℕ). text ++ t) (nil _ e) ∙ append-nil text)

-- what stands behind a part of what stands behind
pub further : (s behind rest : List ℕ) → (front : List ℕ) × (front ++ behind ≡ s) → (front : List ℕ) × (front ++ rest ≡ behind) → (front : List ℕ) × (front ++ rest ≡ s)
further s behind rest (front, so_far) (more, here) = (front ++ more, append_assoc front more rest ∙ ap (λ (t : List ℕ). front ++ t) here ∙ so_far)

pub behind_one : (s a r : List ℕ) → a ++ r ≡ s → (front : List ℕ) × (front ++ drop 1 r ≡ s)
behind_one s a [] whole = (a, whole)
behind_one s a (x ∷ r) whole = (a ++ (x ∷ []), append_assoc a (x ∷ []) r ∙ whole)
