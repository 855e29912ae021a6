use Prim.Native.Nat.{ℕ, ◌≤◌}
use mathlib.Core.Path.{sym, ap, ◌∙◌, subst}
use mathlib.Core.List.{List}
use native.Mathlib.Omega.{arith}
use lib.ListN.{length, take, drop}
use Rattle.buffer.specs.Buffer.{unreplaced, overwritten}
use Rattle.cell.specs.declared.ColumnValue.{ColumnValue}
use Rattle.cell.specs.Cell.{ValueIs}
use Rattle.piece.proofs.ItemLaws.{found_within, found_text, found_replaced, found_place, plain_found, number_text, number_replaced, number_place_lem}
use Rattle.piece.proofs.value_write.Goals as goal

pub other_write-requires : goal.other_write-requires
other_write-requires c =
    let o = subst (λ (x : ColumnValue). ValueIs c.args.release x c.args.column c.args.rest.now) c.in-Other.is (c.decode_column_value.ensures c.args.release) in record { there = omega (arith, o.1.0, c.requires.there); limit = c.requires.limit; within = found_within c.args.release c.in-Other.d c.args.column c.args.rest.now o; room = subst (λ (t : List ℕ). length t ≤ length c.args.out.now) (sym (found_text c.args.release c.in-Other.d c.args.column c.args.rest.now o)) c.requires.room; plain = (c.requires.plain.0, λ m. plain_found c.args.release c.in-Other.d c.args.column c.args.rest.now o c.args.at (c.requires.plain.1 m) ∙ ap (λ (f : ℕ). unreplaced (drop f (take c.in-Other.d.used c.args.rest.now))) (sym c.text_start-from.ensures)) }

pub returns-in-Number : goal.returns-in-Number
returns-in-Number c =
    let o = subst (λ (x : ColumnValue). ValueIs c.args.release x c.args.column c.args.rest.now) c.in-Number.is (c.decode_column_value.ensures c.args.release) in
    let text = number_text c.args.release c.in-Number.n.value c.args.column c.args.rest.now o.0 in record { place = c.bare_piece.ensures.0 ∙ number_place_lem c.args.release c.in-Number.n.value c.args.column c.args.rest.now o.0 c.args.at c.args.next; used = c.bare_piece.ensures.1.0 ∙ o.1; count = c.bare_piece.ensures.1.1.0 ∙ sym (ap length text); bytes = ap (λ (t : List ℕ). overwritten t c.args.out.now) (sym text); replaced = c.bare_piece.ensures.1.1.1 ∙ sym (number_replaced c.args.release c.in-Number.n.value c.args.column c.args.rest.now o.0) }

pub returns-in-Other : goal.returns-in-Other
returns-in-Other c =
    let o = subst (λ (x : ColumnValue). ValueIs c.args.release x c.args.column c.args.rest.now) c.in-Other.is (c.decode_column_value.ensures c.args.release) in
    let text = found_text c.args.release c.in-Other.d c.args.column c.args.rest.now o in record { place = c.other_write.ensures.place ∙ found_place c.args.release c.in-Other.d c.args.column c.args.rest.now o c.args.at c.args.next; used = c.other_write.ensures.used ∙ o.1.0; count = c.other_write.ensures.count ∙ ap length text; bytes = c.other_write.ensures.bytes ∙ ap (λ (t : List ℕ). overwritten t c.args.out.now) text; replaced = c.other_write.ensures.replaced ∙ found_replaced c.args.release c.in-Other.d c.args.column c.args.rest.now o }
