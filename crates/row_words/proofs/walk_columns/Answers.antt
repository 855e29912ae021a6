use mathlib.Core.Path.{refl, sym, ap}
use native.Mathlib.Omega.{arith}
use Rattle.rules.proofs.Progress.{walking_start, walking_step, walking_short, walking_end, rest_is}
use Rattle.row_words.specs.Passes.{outline}
use Rattle.row_words.proofs.Named.{named_length, named_at}
use Rattle.row_words.proofs.walk_columns.Goals as goal

pub loop-i-init : goal.loop-i-init
loop-i-init c = (walking_start _ _ _ c.requires.start)

pub returns-then-rest-n : goal.returns-then-rest-n
returns-then-rest-n c = sym (ap outline (walking_short _ _ _ c.loop-i.invariant c.column.result (named_at _ _ (omega arith) c.words_at-words.ensures c.column.ensures) _ (rest_is c.args.«data».now c.loop-i.at) (rw (c.need_named-n.ensures, ← c.column.ensures) at c.if-rest-n.true) _ _ c.shortage.ensures))

pub loop-i-preserved : goal.loop-i-preserved
loop-i-preserved c = (walking_step _ _ _ c.loop-i.invariant _ (named_at _ _ (omega arith) c.words_at-words.ensures refl) _ (rest_is c.args.«data».now c.loop-i.at) c.need_named-n.result c.need_named-n.ensures c.if-rest-n.false)

pub returns : goal.returns
returns c = sym (ap outline (walking_end _ _ _ c.loop-i.invariant (omega (arith, named_length c.args.columns.now))))
