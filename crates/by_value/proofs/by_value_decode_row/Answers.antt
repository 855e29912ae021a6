use Prim.Native.Nat.{ℕ, ◌%◌}
use mathlib.Core.Path.{refl, sym, ap, ◌∙◌}
use mathlib.Core.List.{List}
use lib.ListN.{length}
use Rattle.types.specs.Places.{max_columns}
use Rattle.types.specs.declared.Columns.{Columns}
use Rattle.rules.specs.Row.{RowTold}
use Rattle.rules.specs.Conversions.{row_answer, row_text}
use Rattle.rules.proofs.Accepted.{same_length_lem}
use Rattle.by_value.specs.ByValue.{number_at}
use Rattle.by_value.proofs.Again.{answered_alike, left_again}
use Rattle.by_value.proofs.by_value_decode_row.Goals as goal

pub loop-init : goal.loop-init
loop-init c =
    let s = c.args.row.now in
    let d = c.args.text.now in
    let columns = c.columns_of-columns.result in
    let i = c.args.index % max_columns in
    let a = c.decode_row-once in
    let same = answered_alike c.args.release columns s d _ (sym (ap length a.ensures.text ∙ same_length_lem c.args.release columns s d)) in
    (c.number_of-number.ensures ∙ ap (λ (t : RowTold). number_at t i) (a.ensures.answer ∙ same), refl)

pub loop-preserved : goal.loop-preserved
loop-preserved c =
    let s = c.args.row.now in
    let d = c.loop.text in
    let columns = c.columns_of-columns.result in
    let i = c.args.index % max_columns in
    let a = c.decode_row-again in
    let first = c.decode_row-once.ensures.text in
    let same = answered_alike c.args.release columns s d _ (sym (ap length a.ensures.text ∙ same_length_lem c.args.release columns s d)) in
    (c.number_of-number-in-loop.ensures ∙ ap (λ (t : RowTold). number_at t i) (a.ensures.answer ∙ same), a.ensures.text ∙ ap (λ (t : List ℕ). row_text c.args.release columns s t) (c.loop.invariant.1 ∙ first) ∙ left_again c.args.release columns s c.args.text.now ∙ sym first)

pub returns : goal.returns
returns c =
    let s = c.args.row.now in
    let d = c.args.text.now in
    let i = c.args.index % max_columns in
    let q = c.columns_of-columns in
    let r = c.decode_row-once in
    record {
      number = c.loop.invariant.0 ∙ ap (λ (t : RowTold). number_at t i) (answered_alike c.args.release q.result s _ d (ap length (c.loop.invariant.1 ∙ r.ensures.text) ∙ same_length_lem c.args.release q.result s d)) ∙ ap (λ (t : Columns). number_at (row_answer c.args.release t s d) i) q.ensures;
      text = c.loop.invariant.1 ∙ r.ensures.text ∙ ap (λ (t : Columns). row_text c.args.release t s d) q.ensures;
    }
