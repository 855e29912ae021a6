use Prim.Native.Nat.{ℕ, ◌≤◌}
use mathlib.Core.Path.{sym, ap, ◌∙◌, subst}
use mathlib.Core.List.{List}
use native.Mathlib.Omega.{arith}
use lib.ListN.{length, take, drop}
use Rattle.buffer.specs.Buffer.{unreplaced, overwritten}
use Rattle.words.specs.Reading.{column_named}
use Rattle.piece.specs.Piece.{text_start}
use Rattle.piece.proofs.ItemLaws.{found_within, found_text, found_replaced, found_place, plain_found, number_text, number_replaced, number_place_lem}
use Rattle.row_words.specs.Passes.{three_set}
use Rattle.row_words.proofs.Typed.{no_number_lem, type_is}
use Rattle.row_words.proofs.puts.put_there.Goals as goal

-- `row_words::puts::put_there` meets its contract: a number, or another value as the column decoder found it. Assumes nothing.
pub decode_number-v-requires : goal.decode_number-v-requires
decode_number-v-requires c = record { tag = c.if-words-lt-DECIMAL.true; there = c.requires.there }

pub returns-then-words-lt-DECIMAL : goal.returns-then-words-lt-DECIMAL
returns-then-words-lt-DECIMAL c =
    let o = c.decode_number-v.ensures.value c.args.release c.args.words.second in
    let text = number_text c.args.release c.decode_number-v.result.value (column_named c.args.words.first c.args.words.second) c.args.rest.now o in record { used = c.decode_number-v.ensures.used c.args.words.second; count = sym (ap length text); bytes = ap (λ (t : List ℕ). overwritten t c.args.out.now) (sym text); values = c.put_value.ensures ∙ ap (three_set c.args.values.now c.args.place) (number_place_lem c.args.release c.decode_number-v.result.value (column_named c.args.words.first c.args.words.second) c.args.rest.now o c.args.at c.args.next); replaced = sym (number_replaced c.args.release c.decode_number-v.result.value (column_named c.args.words.first c.args.words.second) c.args.rest.now o) }

pub decode_other-d-requires : goal.decode_other-d-requires
decode_other-d-requires c = record { there = c.requires.there; other = no_number_lem c.args.words.first c.if-words-lt-DECIMAL.false }

pub other_write-p-requires : goal.other_write-p-requires
other_write-p-requires c =
    let o = c.decode_other-d.ensures c.args.release in record { there = omega (arith, o.1.0, c.requires.there); limit = c.requires.limit; within = found_within c.args.release c.decode_other-d.result (column_named c.args.words.first c.args.words.second) c.args.rest.now o; room = subst (λ (t : List ℕ). length t ≤ length c.args.out.now) (sym (found_text c.args.release c.decode_other-d.result (column_named c.args.words.first c.args.words.second) c.args.rest.now o)) c.requires.room; plain = (c.requires.plain.0, λ m. plain_found c.args.release c.decode_other-d.result (column_named c.args.words.first c.args.words.second) c.args.rest.now o c.args.at (c.requires.plain.1 m) ∙ ap (λ (f : ℕ). unreplaced (drop f (take c.decode_other-d.result.used c.args.rest.now))) (sym (c.text_start-from.ensures ∙ ap text_start (type_is c.args.words.first c.args.words.second c.db2_type.ensures)))) }

pub returns : goal.returns
returns c =
    let o = c.decode_other-d.ensures c.args.release in
    let text = found_text c.args.release c.decode_other-d.result (column_named c.args.words.first c.args.words.second) c.args.rest.now o in record { used = c.other_write-p.ensures.used ∙ o.1.0; count = c.other_write-p.ensures.count ∙ ap length text; bytes = c.other_write-p.ensures.bytes ∙ ap (λ (t : List ℕ). overwritten t c.args.out.now) text; values = c.put_value-2.ensures ∙ ap (three_set c.args.values.now c.args.place) (c.other_write-p.ensures.place ∙ found_place c.args.release c.decode_other-d.result (column_named c.args.words.first c.args.words.second) c.args.rest.now o c.args.at c.args.next); replaced = c.other_write-p.ensures.replaced ∙ found_replaced c.args.release c.decode_other-d.result (column_named c.args.words.first c.args.words.second) c.args.rest.now o }
