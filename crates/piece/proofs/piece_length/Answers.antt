use mathlib.Core.Path.{sym, ap, subst, ◌∙◌}
use mathlib.Core.Bool.{true≢false}
use native.Mathlib.Omega.{arith}
use lib.ListN.{length, length-drop}
use Rattle.std.proofs.lemmas.List.{take_rest}
use Rattle.piece.specs.Piece.{PlainCell}
use Rattle.piece.proofs.PieceLaws.{lead_of, null_takes, absent_text, value_takes, value_stands, value_reads}
use Rattle.piece.proofs.piece_length.Goals as goal

pub returns-then-is_null : goal.returns-then-is_null
returns-then-is_null c = record { used = sym (null_takes c.args.column c.args.rest.now (sym c.is_null.ensures ∙ c.if-is_null.true)); len = sym (ap length (absent_text c.args.column c.args.rest.now (sym c.is_null.ensures ∙ c.if-is_null.true) c.args.release (omega (arith, null_takes c.args.column c.args.rest.now (sym c.is_null.ensures ∙ c.if-is_null.true), c.requires.there)))); plain = λ at h. absurd (true≢false (sym h)) }

pub value_length-v-requires : goal.value_length-v-requires
value_length-v-requires c = rw (take_rest c.args.rest.now c.lead-from.result, c.lead-from.ensures.0) (record { there = omega (arith, value_takes c.args.column c.args.rest.now (sym c.is_null.ensures ∙ c.if-is_null.false), length-drop (lead_of c.args.column) c.args.rest.now, c.requires.there); limit = omega (arith, length-drop (lead_of c.args.column) c.args.rest.now, c.requires.limit) })

pub overflow_add-result : goal.overflow_add-result
overflow_add-result c = let u = rw (take_rest c.args.rest.now c.lead-from.result, c.lead-from.ensures.0) at c.value_length-v.ensures.used in record { fits = omega (arith, u, c.lead-from.ensures.0, value_takes c.args.column c.args.rest.now (sym c.is_null.ensures ∙ c.if-is_null.false), c.requires.there, c.requires.limit) }

pub returns : goal.returns
returns c = let w = rw (take_rest c.args.rest.now c.lead-from.result, c.lead-from.ensures.0) at c.value_length-v.ensures in record { used = omega (arith, w.used, c.lead-from.ensures.0, value_takes c.args.column c.args.rest.now (sym c.is_null.ensures ∙ c.if-is_null.false)); len = w.len ∙ ap length (sym (value_reads c.args.column c.args.rest.now (sym c.is_null.ensures ∙ c.if-is_null.false) c.args.release)); plain = λ at h. subst (PlainCell c.args.release) (sym (value_stands c.args.column c.args.rest.now (sym c.is_null.ensures ∙ c.if-is_null.false) at)) (w.plain h) }
