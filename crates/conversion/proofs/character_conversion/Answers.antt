use mathlib.Core.Path.{sym, ◌∙◌}
use native.Mathlib.Omega.{arith}
use borrow.Author.Tests.{lt-ltb, le-ltb}
use Rattle.unicode_standard.specs.Ascii.{all_ascii}
use Rattle.utf.proofs.AsciiLaws.{none_high, some_high}
use Rattle.conversion.proofs.Picks.{at_name, at_none}
use Rattle.conversion.proofs.character_conversion.Goals as goal

pub returns-in-Some : goal.returns-in-Some
returns-in-Some c = at_name _ _ _ _ (sym c.named.ensures ∙ c.in-Some.is)

pub returns-in-None : goal.returns-in-None
returns-in-None c =
    rw (lt-ltb c.args.release 3 (omega arith), none_high _ (all_ascii c.args.s.now) c.has_high.ensures c.if-not-has_high.true) at (at_none c.args.release _ c.args.s.now (sym c.named.ensures ∙ c.in-None.is))

pub returns-in-None-2 : goal.returns-in-None-2
returns-in-None-2 c =
    rw (lt-ltb c.args.release 3 (omega arith), some_high _ (all_ascii c.args.s.now) c.has_high.ensures c.if-not-has_high.false) at (at_none c.args.release _ c.args.s.now (sym c.named.ensures ∙ c.in-None-2.is))

pub returns-in-None-2-2 : goal.returns-in-None-2-2
returns-in-None-2-2 c = rw (le-ltb c.args.release 3 (omega arith)) at (at_none c.args.release _ c.args.s.now (sym c.named.ensures ∙ c.in-None-2.is))
