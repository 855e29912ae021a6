use Rattle.std.proofs.Common.{List, ℕ, ◌++◌, Some}
use Rattle.std.proofs.lemmas.Slice.Eq.{strip_prefix_is}
use Rattle.std.proofs.lemmas.Bool.Decides.{Decides-eqb}
use mathlib.Core.Path.{ap, ◌∙◌}
use Rattle.answers.proofs.rest.RestWrite.write_str.Goals as goal

pub returns-in-Some : goal.returns-in-Some
returns-in-Some c = record { ok = λ _. strip_prefix_is Decides-eqb c.args.self.now.0.now c.as_bytes.result.now (Some c.in-Some.behind) c.in-Some.ensures.cases ∙ ap (λ (p : List ℕ). p ++ c.in-Some.behind.now) c.as_bytes.ensures.value }
