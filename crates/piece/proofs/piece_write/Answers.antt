use Prim.Native.Nat.{ℕ, ◌≤◌, ◌<◌}
use mathlib.Core.Path.{sym, ap, ◌∙◌, subst}
use mathlib.Core.List.{List}
use native.Mathlib.Omega.{arith}
use lib.ListN.{length, length-drop}
use Rattle.std.proofs.lemmas.List.{take_rest}
use Rattle.buffer.specs.Buffer.{overwritten}
use Rattle.types.specs.Places.{blank_value}
use Rattle.rules.specs.Walk.{Cell}
use Rattle.rules.specs.Row.{cell_value}
use Rattle.rules.specs.Conversions.{conversions_of}
use Rattle.piece.specs.Piece.{PlainCell}
use Rattle.piece.proofs.PieceLaws.{lead_of, null_takes, null_absent, absent_text, absent_replaced, lead_within, value_takes, value_stands, value_reads, value_counts}
use Rattle.piece.proofs.piece_write.Goals as goal

pub returns-then-is_null : goal.returns-then-is_null
unfolding cell_value blank_value
returns-then-is_null c =
    let d = c.args.column in
    let s = c.args.rest.now in
    let h = sym c.is_null.ensures ∙ c.if-is_null.true in
    let one = null_takes d s h in
    let some : 0 < length s = omega (arith, one, c.requires.there) in
    let text = sym (absent_text d s h c.args.release some) in
    let n = c.bare_piece.ensures in record { place = n.0 ∙ ap (λ (p : Cell). cell_value (conversions_of c.args.release) p c.args.next) (sym (null_absent d s h some c.args.at)); used = n.1.0 ∙ sym one; count = n.1.1.0 ∙ ap length text; bytes = ap (λ (t : List ℕ). overwritten t c.args.out.now) text; replaced = n.1.1.1 ∙ sym (absent_replaced d s h c.args.release some) }

pub value_write-v-requires : goal.value_write-v-requires
value_write-v-requires c = rw (take_rest c.args.rest.now c.lead-from.result, c.lead-from.ensures.0) (record { there = omega (arith, value_takes c.args.column c.args.rest.now (sym c.is_null.ensures ∙ c.if-is_null.false), length-drop (lead_of c.args.column) c.args.rest.now, c.requires.there); limit = omega (arith, length-drop (lead_of c.args.column) c.args.rest.now, lead_within c.args.column c.args.rest.now (sym c.is_null.ensures ∙ c.if-is_null.false), c.requires.limit); room = subst (λ (t : List ℕ). length t ≤ length c.args.out.now) (value_reads c.args.column c.args.rest.now (sym c.is_null.ensures ∙ c.if-is_null.false) c.args.release) c.requires.room; plain = (c.requires.plain.0, λ t. subst (PlainCell c.args.release) (value_stands c.args.column c.args.rest.now (sym c.is_null.ensures ∙ c.if-is_null.false) c.args.at) (c.requires.plain.1 t)) })

pub overflow_add-result : goal.overflow_add-result
overflow_add-result c = let u = rw (take_rest c.args.rest.now c.lead-from.result, c.lead-from.ensures.0) at c.value_write-v.ensures.used in record { fits = omega (arith, u, c.lead-from.ensures.0, value_takes c.args.column c.args.rest.now (sym c.is_null.ensures ∙ c.if-is_null.false), c.requires.there, c.requires.limit) }

pub returns : goal.returns
returns c =
    let l = c.lead-from in
    let d = c.args.column in
    let s = c.args.rest.now in
    let h = sym c.is_null.ensures ∙ c.if-is_null.false in
    let w = rw (take_rest s l.result, l.ensures.0) at c.value_write-v.ensures in
    let text = sym (value_reads d s h c.args.release) in record { place = w.place ∙ ap (λ (p : Cell). cell_value (conversions_of c.args.release) p c.args.next) (sym (value_stands d s h c.args.at)); used = omega (arith, w.used, l.ensures.0, value_takes d s h); count = w.count ∙ ap length text; bytes = w.bytes ∙ ap (λ (t : List ℕ). overwritten t c.args.out.now) text; replaced = w.replaced ∙ sym (value_counts d s h c.args.release) }
