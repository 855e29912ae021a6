-- The writing loop over columns by value: the texts in the buffer, the values in their places, and how many U+FFFD were put in. Assumes nothing.
use Prim.Native.Nat.{ℕ, ◌+◌, ◌-◌, ◌≤◌, ◌<◌}
use mathlib.Core.Path.{◌≡◌, sym, ap, ◌∙◌}
use mathlib.Core.List.{List, [], ◌∷◌, ◌++◌}
use lib.ListN.{length, take, drop, set, replicate}
use Rattle.types.specs.declared.ColumnDescriptor.{ColumnDescriptor}
use Rattle.types.specs.declared.ValuePlace.{ValuePlace}
use Rattle.types.specs.Places.{max_columns, filled, blank_value}
use Rattle.buffer.specs.Buffer.{overwritten}
use Rattle.rules.specs.Walk.{column_need, Cell, done, walk_body}
use Rattle.rules.specs.Row.{cell_value, row_values, row_texts, row_replaced, accept, body_decision}
use Rattle.rules.specs.Conversions.{conversions_of}
use Rattle.rules.proofs.Walks.{pieces_of}
use Rattle.rules.proofs.Progress.{piece_at, text_in, replaced_in, Placing, placing_start, placing_step, placing_end, placed_start, placed_step}
use Rattle.row.proofs.Wholes.{decided_accepted}

-- the columns cs of the input s, whose walk ends at `end`, at a release; d is the text buffer as it was
module _ (release : ℕ) (cs : List ColumnDescriptor) (start : ℕ) (s : List ℕ) (end : ℕ) (d : List ℕ) where
  abbrev pub pieces : List Cell
  pieces = pieces_of (walk_body cs start s)

  pub record Filling (places : List ValuePlace) (i at next replaced : ℕ) (out : List ℕ) : Type 0 where
    pub whole : walk_body cs start s ≡ done pieces end
    pub decided : body_decision (conversions_of release) cs start s d ≡ accept pieces end
    pub passed : List Cell
    pub placing : Placing (conversions_of release) cs start s pieces end d passed i at next replaced out
    pub placed : places ≡ filled blank_value (row_values (conversions_of release) passed 0)

  pub filling_start : start ≤ length s → walk_body cs start s ≡ done pieces end → length (row_texts (conversions_of release) pieces) ≤ length d
      → (b : ValuePlace) → b ≡ blank_value → Filling (replicate max_columns b) 0 start 0 0 d
  filling_start h w k b e =
      record {
        whole = w;
        decided = decided_accepted release cs start s d w k;
        passed = [];
        placing = placing_start (conversions_of release) cs start s pieces end d h w k;
        placed = rw e (placed_start (conversions_of release));
      }

  pub filling_step : {places : List ValuePlace} {i at next replaced : ℕ} {out : List ℕ} → (f : Filling places i at next replaced out)
      → (c : ColumnDescriptor) → drop i cs ≡ c ∷ drop (i + 1) cs → (r : List ℕ) → r ≡ drop at s → i < max_columns
      → (v : ValuePlace) → v ≡ cell_value (conversions_of release) (piece_at c at r) next → (n k m : ℕ) → n ≡ column_need c r → k ≡ length (text_in (conversions_of release) c r) → m ≡ replaced_in (conversions_of release) c r
      → (ys : List ℕ) → ys ≡ overwritten (text_in (conversions_of release) c r) (take (length out - next) (drop next out))
      → Filling (set places i v) (i + 1) (at + n) (next + k) (replaced + m) (take next out ++ (ys ++ drop (length out - next) (drop next out)))
  filling_step {places} {i} {at} {next} {replaced} {out} f c e r q h v g n k m y z x ys w =
      record {
        whole = f.whole;
        decided = f.decided;
        passed = f.passed ++ (piece_at c at r ∷ []);
        placing = placing_step (conversions_of release) cs start s pieces end d f.placing c e r q n k m y z x ys w;
        placed = placed_step (conversions_of release) f.passed places f.placed i next f.placing.count h f.placing.sum (piece_at c at r) v g;
      }

  pub filling_end : {places : List ValuePlace} {i at next replaced : ℕ} {out : List ℕ} → Filling places i at next replaced out → length cs ≤ i
      → (places ≡ filled blank_value (row_values (conversions_of release) pieces 0)) × (at ≡ end) × (out ≡ overwritten (row_texts (conversions_of release) pieces) d) × (replaced ≡ row_replaced (conversions_of release) pieces)
  filling_end f h =
      let e = placing_end (conversions_of release) cs start s pieces end d f.placing h in
      (f.placed ∙ ap (λ (l : List Cell). filled blank_value (row_values (conversions_of release) l 0)) (sym e.0), sym e.1, e.2, e.3)
