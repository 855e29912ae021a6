-- What holds while values and texts are written: of the columns cs, i are passed, their values stand in the first words, and their texts in the
-- first bytes; so many U+FFFD were put in. Assumes nothing.
use Prim.Native.Nat.{ℕ, ◌+◌, ◌-◌, ◌*◌, ◌≤◌}
use mathlib.Core.Path.{◌≡◌, refl, ap, ◌∙◌}
use mathlib.Core.List.{List, [], ◌∷◌, ◌++◌}
use native.Mathlib.Omega.{arith}
use lib.ListN.{length, take, drop, set, length-append, length-drop}
use Rattle.types.specs.declared.ColumnDescriptor.{ColumnDescriptor}
use Rattle.types.specs.declared.ValuePlace.{ValuePlace}
use Rattle.buffer.specs.Buffer.{overwritten}
use Rattle.rules.specs.Walk.{Cell, column_need, done, walk_body}
use Rattle.rules.specs.Row.{cell_value, row_values, row_texts, row_replaced}
use Rattle.rules.specs.Conversions.{conversions_of}
use Rattle.rules.proofs.Progress.{piece_at, text_in, replaced_in, Placing, placing_start, placing_step, placing_end, values_next, values_length}
use Rattle.words.specs.Values.{kind_word, number_word, length_word, pack_values}
use Rattle.words.proofs.Packed.{values_packed, stored_value}

-- the row s from `start` on, whose walk is done; the text buffer was d and the words were v
module _ (release : ℕ) (cs : List ColumnDescriptor) (start : ℕ) (s : List ℕ) (ps : List Cell) (end : ℕ) (d v : List ℕ) where
  pub record Putting (i at next replaced : ℕ) (out words : List ℕ) : Type 0 where
    pub passed : List Cell
    pub placing : Placing (conversions_of release) cs start s ps end d passed i at next replaced out
    pub values : words ≡ pack_values (row_values (conversions_of release) passed 0) ++ drop (3 * i) v

  pub putting_start : start ≤ length s → walk_body cs start s ≡ done ps end → length (row_texts (conversions_of release) ps) ≤ length d → Putting 0 start 0 0 d v
  unfolding pack_values row_values
  putting_start h w k = record { passed = []; placing = placing_start (conversions_of release) cs start s ps end d h w k; values = refl }

  module _ {i at next replaced : ℕ} {out words : List ℕ} (p : Putting i at next replaced out words) where
    packed_length_lem : length (pack_values (row_values (conversions_of release) p.passed 0)) ≡ 3 * i
    packed_length_lem = values_packed (row_values (conversions_of release) p.passed 0) ∙ rw (values_length (conversions_of release) p.passed 0, p.placing.count)

    pub as_many : 3 * i ≤ length v → length words ≡ length v
    as_many h =
        ap length p.values ∙ length-append (pack_values (row_values (conversions_of release) p.passed 0)) (drop (3 * i) v)
        ∙ omega (arith, packed_length_lem, length-drop (3 * i) v)

    module _ (c : ColumnDescriptor) (e : drop i cs ≡ c ∷ drop (i + 1) cs) (r : List ℕ) (q : r ≡ drop at s) where
      pub putting_step : (n k m : ℕ) → n ≡ column_need c r → k ≡ length (text_in (conversions_of release) c r) → m ≡ replaced_in (conversions_of release) c r → (ys : List ℕ) → ys ≡ overwritten (text_in (conversions_of release) c r) (take (length out - next) (drop next out))
          → 3 * i + 3 ≤ length v → (x : ValuePlace) → x ≡ cell_value (conversions_of release) (piece_at c at r) next
          → Putting (i + 1) (at + n) (next + k) (replaced + m) (take next out ++ (ys ++ drop (length out - next) (drop next out)))
          (set (set (set words (3 * i) (kind_word x)) (3 * i + 1) (number_word x.value)) (3 * i + 2) (length_word x.value))
      putting_step n k m y z g ys w room x f =
          let many = values_length (conversions_of release) p.passed 0 in
          let on : 3 * i + 3 ≡ 3 * (i + 1) = omega arith in
          let all : row_values (conversions_of release) (p.passed ++ (piece_at c at r ∷ [])) 0 ≡ row_values (conversions_of release) p.passed 0 ++ (x ∷ []) =
          values_next (conversions_of release) p.passed (piece_at c at r) next p.placing.sum ∙ rw f in
          record {
            passed = p.passed ++ (piece_at c at r ∷ []);
            placing = placing_step (conversions_of release) cs start s ps end d p.placing c e r q n k m y z g ys w;
            values =
                stored_value (row_values (conversions_of release) p.passed 0) x v words (3 * i) (omega (arith, many, p.placing.count)) (omega (arith, as_many (omega arith))) p.values
                ∙ rw (all, on);
          }

    pub record Put : Type 0 where
      pub sum : next ≡ length (row_texts (conversions_of release) ps)
      pub counted : replaced ≡ row_replaced (conversions_of release) ps
      pub texts : out ≡ overwritten (row_texts (conversions_of release) ps) d
      pub words_are : words ≡ overwritten (pack_values (row_values (conversions_of release) ps 0)) v

    pub putting_end : length cs ≤ i → Put
    putting_end h =
        let g = placing_end (conversions_of release) cs start s ps end d p.placing h in
        record {
          sum = p.placing.sum ∙ rw g.0;
          counted = g.3;
          texts = g.2;
          words_are = p.values ∙ rw (g.0, packed_length_lem);
        }
