use borrow.Author.Rules.{rules}
use native.Mathlib.Omega.{arith}
use mathlib.Core.Path.{◌≡◌, sym, ◌∙◌}
use lib.ListN.{length}
use lib.Seq.{drop-length}
use Rattle.types.specs.Kinds.{kind_in}
use Rattle.types.proofs.KindLaws.{kind_found, kind_next}
use Rattle.types.proofs.kind_in.Goals as goal

pub returns-then-entry-base : goal.returns-then-entry-base
returns-then-entry-base c =
    let l = c.loop-i in
    sym (kind_found c.args.table l.i _ _ (search rules) c.if-entry-base.true) ∙ l.invariant

pub loop-i-preserved : goal.loop-i-preserved
loop-i-preserved c =
    let l = c.loop-i in
    sym (kind_next c.args.table l.i _ _ (search rules) c.if-entry-base.false) ∙ l.invariant

pub returns : goal.returns
unfolding kind_in
returns c =
    let l = c.loop-i in
    let e : l.i ≡ length c.args.table = omega arith in
    (rw (e, drop-length) at l.invariant)
