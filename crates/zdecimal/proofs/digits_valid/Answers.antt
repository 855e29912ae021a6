use Prim.Native.Nat.{ℕ, ◌-◌}
use mathlib.Core.List.{List}
use mathlib.Core.Path.{◌≡◌, sym, ◌∙◌}
use lib.ListN.{length, take}
use Rattle.std.proofs.Common.{rules, tests}
use Rattle.std.specs.List.{list_all}
use Rattle.std.proofs.lemmas.Iterator.{YieldsList-from_slice}
use Rattle.std.proofs.lemmas.Iterator.Search.{all_from_yields_List}
use Rattle.zdecimal.proofs.Digits.{both_digits, all_digits}
use Rattle.zdecimal.proofs.digits_valid.Goals as goal

pub returns-then-all : goal.returns-then-all
returns-then-all c =
    let s : List ℕ = c.args.«data».now in
    let all : c.all.result ≡ list_all both_digits (take (length s - 1) s) =
    all_from_yields_List both_digits _ _ c.all.result c.all.ensures.ran (YieldsList-from_slice (take (length s - 1) s) cc) (λ x b q k. search (rules, tests)) in
    rw (sym all ∙ c.if-all.true) at (all_digits s c.requires)

pub returns-else-all : goal.returns-else-all
returns-else-all c =
    let s : List ℕ = c.args.«data».now in
    let all : c.all.result ≡ list_all both_digits (take (length s - 1) s) =
    all_from_yields_List both_digits _ _ c.all.result c.all.ensures.ran (YieldsList-from_slice (take (length s - 1) s) cc) (λ x b q k. search (rules, tests)) in
    c.if-all.false ∙ rw (sym all ∙ c.if-all.false) at (all_digits s c.requires)
