use Prim.Native.Nat.{ℕ, ◌≤◌}
use mathlib.Core.Path.{sym, ap, ◌∙◌, subst}
use mathlib.Core.List.{List}
use native.Mathlib.Omega.{arith}
use lib.ListN.{length, length-drop}
use Rattle.std.proofs.lemmas.List.{take_rest}
use Rattle.buffer.specs.Buffer.{overwritten}
use Rattle.rules.specs.Walk.{Cell}
use Rattle.rules.specs.Row.{cell_value}
use Rattle.rules.specs.Conversions.{conversions_of}
use Rattle.words.specs.Reading.{column_named}
use Rattle.piece.specs.Piece.{PlainCell}
use Rattle.piece.proofs.PieceLaws.{lead_of, null_takes, null_absent, absent_text, absent_replaced, lead_within, value_takes, value_stands, value_reads, value_counts}
use Rattle.row_words.specs.Passes.{three_set}
use Rattle.row_words.proofs.Indicators.{at_most, absent_words, null_named, lead_named}
use Rattle.row_words.proofs.puts.put_column.Goals as goal

pub returns-then-is_null : goal.returns-then-is_null
returns-then-is_null c = let h = null_named c.args.words.first c.args.words.second _ c.is_nullable-nullable.ensures c.args.rest.now _ _ c.is_null.ensures c.if-is_null.true in
    let one = null_takes (column_named c.args.words.first c.args.words.second) c.args.rest.now h in
    let some = at_most (sym one) c.requires.there in
    let text = sym (absent_text (column_named c.args.words.first c.args.words.second) c.args.rest.now h c.args.release some) in record { used = sym one; count = ap length text; bytes = rw (← text); values = c.put_words.ensures ∙ absent_words c.args.release c.args.values.now c.args.place c.args.next ∙ ap (λ (p : Cell). three_set c.args.values.now c.args.place (cell_value (conversions_of c.args.release) p c.args.next)) (sym (null_absent (column_named c.args.words.first c.args.words.second) c.args.rest.now h some c.args.at)); replaced = sym (absent_replaced (column_named c.args.words.first c.args.words.second) c.args.rest.now h c.args.release some) }

pub put_there-t-requires : goal.put_there-t-requires
put_there-t-requires c = let h = null_named c.args.words.first c.args.words.second _ c.is_nullable-nullable.ensures c.args.rest.now _ _ c.is_null.ensures c.if-is_null.false in
    let n = lead_named c.args.words.first c.args.words.second _ c.is_nullable-nullable.ensures _ c.lead-from.ensures.0 in
    let d = column_named c.args.words.first c.args.words.second in rw (take_rest c.args.rest.now c.lead-from.result, n) (record { there = omega (arith, value_takes d c.args.rest.now h, length-drop (lead_of d) c.args.rest.now, c.requires.there); limit = omega (arith, length-drop (lead_of d) c.args.rest.now, lead_within d c.args.rest.now h, c.requires.limit); room = subst (λ (t : List ℕ). length t ≤ length c.args.out.now) (value_reads d c.args.rest.now h c.args.release) c.requires.room; words = c.requires.words; plain = (c.requires.plain.0, λ t. subst (PlainCell c.args.release) (value_stands d c.args.rest.now h c.args.at) (c.requires.plain.1 t)) })

pub overflow_add-result : goal.overflow_add-result
overflow_add-result c = let h = null_named c.args.words.first c.args.words.second _ c.is_nullable-nullable.ensures c.args.rest.now _ _ c.is_null.ensures c.if-is_null.false in
    let n = lead_named c.args.words.first c.args.words.second _ c.is_nullable-nullable.ensures _ c.lead-from.ensures.0 in
    let u = rw (take_rest c.args.rest.now c.lead-from.result, n) at c.put_there-t.ensures.used in
    record { fits = omega (arith, u, n, value_takes (column_named c.args.words.first c.args.words.second) c.args.rest.now h, c.requires.there, c.requires.limit) }

pub returns : goal.returns
returns c = let h = null_named c.args.words.first c.args.words.second _ c.is_nullable-nullable.ensures c.args.rest.now _ _ c.is_null.ensures c.if-is_null.false in
    let n = lead_named c.args.words.first c.args.words.second _ c.is_nullable-nullable.ensures _ c.lead-from.ensures.0 in
    let w = rw (take_rest c.args.rest.now c.lead-from.result, n) at c.put_there-t.ensures in
    let text = sym (value_reads (column_named c.args.words.first c.args.words.second) c.args.rest.now h c.args.release) in record { used = omega (arith, w.used, n, value_takes (column_named c.args.words.first c.args.words.second) c.args.rest.now h); count = w.count ∙ ap length text; bytes = w.bytes ∙ ap (λ (t : List ℕ). overwritten t c.args.out.now) text; values = w.values ∙ ap (λ (p : Cell). three_set c.args.values.now c.args.place (cell_value (conversions_of c.args.release) p c.args.next)) (sym (value_stands (column_named c.args.words.first c.args.words.second) c.args.rest.now h c.args.at)); replaced = w.replaced ∙ sym (value_counts (column_named c.args.words.first c.args.words.second) c.args.rest.now h c.args.release) }
