-- What the row call on words looks at: columns that decode_row does not tell apart (rules' `looks_at`) it does not tell apart either. Assumes nothing.
use Prim.Native.Nat.{ℕ, suc, ◌*◌, ◌≤◌}
use mathlib.Core.Path.{◌≡◌, refl, sym, ap, ◌∙◌}
use mathlib.Core.List.{List, [], ◌∷◌}
use native.Mathlib.Omega.{arith}
use lib.ListN.{length, take}
use Rattle.refusal.specs.Refusal.{told_number}
use Rattle.types.specs.declared.ColumnDescriptor.{ColumnDescriptor}
use Rattle.types.specs.Places.{max_columns, column_list}
use Rattle.rules.specs.Value.{texts_together}
use Rattle.rules.specs.Row.{RowTold}
use Rattle.rules.specs.Conversions.{row_answer, row_text}
use Rattle.rules.specs.LooksAt.{AllAlike}
use Rattle.rules.proofs.LooksAt.{looks_at}
use Rattle.words.specs.Words.{pack_columns}
use Rattle.words.proofs.Columns.{AllFit}
use Rattle.vejupa.specs.Rows.{RowNumbers, words_decision, row_numbers, words_left, text_left}
use Rattle.vejupa.proofs.RowCall.{covered_list}
use Rattle.vejupa.proofs.RowForms.{values_by, beside_answer, same_number, same_used, same_text_length, same_replaced, same_expected, same_actual, same_values, same_text}

alike_length : (cs ds : List ColumnDescriptor) → AllAlike cs ds → length cs ≡ length ds
alike_length [] [] h = refl
alike_length [] (d ∷ ds) h = absurd h
alike_length (c ∷ cs) [] h = absurd h
alike_length (c ∷ cs) (d ∷ ds) h = ap suc (alike_length cs ds h.1)

-- two answers of the call: the numbers, the words of values and the text buffer
pub record SameOnWords (release : ℕ) (u w s v d : List ℕ) : Type 0 where
  pub numbers : row_numbers release (words_decision release u s v d) ≡ row_numbers release (words_decision release w s v d)
  pub values : words_left release (words_decision release u s v d) v ≡ words_left release (words_decision release w s v d) v
  pub text : text_left release (words_decision release u s v d) d ≡ text_left release (words_decision release w s v d) d

fields_same : (a b : RowNumbers) → a.returned ≡ b.returned → a.used ≡ b.used → a.text_length ≡ b.text_length → a.replaced ≡ b.replaced → a.expected ≡ b.expected
    → a.actual ≡ b.actual → a ≡ b
fields_same a b e1 e2 e3 e4 e5 e6 = rw (e1, e2, e3, e4, e5, e6)

-- for the words of columns in range, and words enough for their values
module _ (release : ℕ) (cs ds : List ColumnDescriptor) (alike : AllAlike cs ds) (fit : AllFit cs) (fits : AllFit ds) (few : length cs ≤ max_columns) (s v d : List ℕ) (room : 3 * length cs ≤ length v) where
  count : length cs ≡ length ds
  count = alike_length cs ds alike

  called : (row_answer release (column_list cs) s d ≡ row_answer release (column_list ds) s d) × (row_text release (column_list cs) s d ≡ row_text release (column_list ds) s d)
  unfolding column_list
  called = looks_at release (column_list cs) (column_list ds) count (rw (covered_list cs, covered_list ds) alike) s d

  pub words_look_at : SameOnWords release (pack_columns cs) (pack_columns ds) s v d
  words_look_at =
      let few' : length ds ≤ max_columns = omega (arith, count) in
      let room' : 3 * length ds ≤ length v = omega (arith, count) in
      let a = called.0 in
      let e1 = same_number release cs fit few s v d room ∙ ap (λ (r : RowTold). told_number r.outcome) a ∙ sym (same_number release ds fits few' s v d room') in
      let e2 = same_used release cs fit few s v d room ∙ ap (λ (r : RowTold). r.used) a ∙ sym (same_used release ds fits few' s v d room') in
      let e3 = same_text_length release cs fit few s v d room ∙ ap (λ (r : RowTold). beside_answer 9 0 r.outcome (texts_together r.places)) a ∙ sym (same_text_length release ds fits few' s v d room') in
      let e4 = same_replaced release cs fit few s v d room ∙ ap (λ (r : RowTold). r.replaced) a ∙ sym (same_replaced release ds fits few' s v d room') in
      let e5 = same_expected release cs fit few s v d room ∙ ap (λ (r : RowTold). beside_answer 8 0 r.outcome 0) a ∙ sym (same_expected release ds fits few' s v d room') in
      let e6 = same_actual release cs fit few s v d room ∙ ap (λ (r : RowTold). beside_answer 8 1 r.outcome 0) a ∙ sym (same_actual release ds fits few' s v d room') in
      record {
        numbers = fields_same (row_numbers release (words_decision release (pack_columns cs) s v d)) (row_numbers release (words_decision release (pack_columns ds) s v d)) e1 e2 e3 e4 e5 e6;
        values =
            same_values release cs fit few s v d room
            ∙ ap (λ (r : RowTold). values_by r.outcome (take (length cs) r.places) v) a
            ∙ ap (λ (n : ℕ). values_by (row_answer release (column_list ds) s d).outcome (take n (row_answer release (column_list ds) s d).places) v) count
            ∙ sym (same_values release ds fits few' s v d room');
        text = same_text release cs fit few s v d room ∙ called.1 ∙ sym (same_text release ds fits few' s v d room');
      }
