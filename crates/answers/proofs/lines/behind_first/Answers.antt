use Rattle.std.proofs.Common.{◌≡◌, ◌++◌, List, ℕ, sym, append-nil}
use mathlib.Core.Path.{subst}
use Rattle.std.proofs.lemmas.List.{take_rest}
use Rattle.answers.proofs.Behind.{behind_one}
use Rattle.answers.proofs.lines.behind_first.Goals as goal

pub returns-in-len1-up : goal.returns-in-len1-up
returns-in-len1-up c =
    let s = c.args.s.now in
    let r = c.cut.result.1.now in
    subst (λ (t : List ℕ). (front : List ℕ) × (front ++ t ≡ s)) (sym (take_rest r 1)) (behind_one s c.cut.result.0.now r c.cut.ensures.whole)

pub returns-in-empty : goal.returns-in-empty
returns-in-empty c = (c.args.s.now, append-nil c.args.s.now)
