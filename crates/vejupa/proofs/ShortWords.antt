-- Which column a row is too short in, by the row call on words: calls with the words of fewer columns tell it, as calls of decode_row with fewer columns do (rules,
-- ShortColumn). Assumes nothing.
use Prim.Native.Nat.{ℕ, zero, suc, ◌-◌, ◌*◌, ◌≤◌, ◌<◌}
use mathlib.Core.Path.{◌≡◌, refl, sym, ap, ◌∙◌}
use mathlib.Core.Bool.{cond}
use mathlib.Core.List.{List, [], ◌∷◌}
use native.Mathlib.Omega.{arith}
use lib.Dec.{ltb}
use lib.ListN.{length, take, replicate}
use lib.Seq.{take-nil, take-append-le, length-take-le}
use Rattle.refusal.specs.Refusal.{Told, accepted, refused, told_number, input_limit}
use Rattle.types.specs.declared.ColumnDescriptor.{ColumnDescriptor}
use Rattle.types.specs.Places.{max_columns, filled, blank_column, column_list}
use Rattle.rules.specs.Walk.{skip_of}
use Rattle.rules.specs.Row.{RowTold, Decision, refuse, covered, any_dec_float, body_decision, row_decision, answer_of, refused_row}
use Rattle.rules.specs.Meaning.{Conversions}
use Rattle.conversion.specs.Conversion.{is_release}
use Rattle.rules.specs.Conversions.{conversions_of, row_answer}
use Rattle.rules.specs.ShortColumn.{first_columns, Lacking}
use Rattle.rules.proofs.ShortColumn.{short_column}
use Rattle.words.specs.Words.{first_word, second_word, pack_columns}
use Rattle.words.proofs.Columns.{AllFit}
use Rattle.vejupa.specs.Rows.{words_decision, row_numbers}
use Rattle.vejupa.proofs.RowCall.{covered_list}
use Rattle.vejupa.proofs.RowForms.{same_number}

-- ---- the words of the first columns

first_words : (j : ℕ) (cs : List ColumnDescriptor) → take (2 * j) (pack_columns cs) ≡ pack_columns (take j cs)
unfolding pack_columns
first_words zero cs = refl
first_words (suc j) [] = take-nil (2 * suc j)
first_words (suc j) (c ∷ cs) =
    let e : 2 * suc j ≡ suc (suc (2 * j)) = omega arith in
    ap (λ (n : ℕ). take n (first_word c ∷ second_word c ∷ pack_columns cs)) e ∙ ap (λ (w : List ℕ). first_word c ∷ second_word c ∷ w) (first_words j cs)

first_fit : (j : ℕ) (cs : List ColumnDescriptor) → AllFit cs → AllFit (take j cs)
first_fit zero cs h = tt
first_fit (suc j) [] h = tt
first_fit (suc j) (c ∷ cs) h = (h.0, first_fit j cs h.1)

-- a row call goes by the count, and by the columns that it covers
abbrev decision_by : Conversions → ℕ → List ColumnDescriptor → List ℕ → List ℕ → Decision
decision_by L n cs s d =
    cond (ltb max_columns n) (refuse 3 [])
    (cond (ltb input_limit (length s)) (refuse 4 [])
    (cond (any_dec_float cs) (refuse 5 [])
    (body_decision L cs (skip_of s) s d)))

-- so the list of the first j columns, and the list with the count j, are one
first_decision : (L : Conversions) (j : ℕ) (cs : List ColumnDescriptor) (s d : List ℕ) → j ≤ length cs
    → row_decision L (column_list (take j cs)) s d ≡ row_decision L (first_columns j (column_list cs)) s d
unfolding row_decision column_list filled
first_decision L j cs s d h =
    let n : length (take j cs) ≡ j = length-take-le j cs h in
    let a : covered (column_list (take j cs)) ≡ take j cs = covered_list (take j cs) in
    let b : covered (first_columns j (column_list cs)) ≡ take j cs = take-append-le j cs (replicate (max_columns - length cs) blank_column) h in
    ap (λ (m : ℕ). decision_by L m (covered (column_list (take j cs))) s d) n ∙ ap (λ (l : List ColumnDescriptor). decision_by L j l s d) (a ∙ sym b)

is_8 : (o : Told) → told_number o ≡ 8 → (vs : List ℕ) × (o ≡ refused 8 vs)
is_8 accepted h = absurd (omega (arith, h))
is_8 (refused n vs) h = (vs, ap (λ (m : ℕ). refused m vs) h)

-- ---- the calls with fewer words

module _ (release : ℕ) (cs : List ColumnDescriptor) (fit : AllFit cs) (few : length cs ≤ max_columns) (s : List ℕ) where
  -- the number that the call with the words of the first j columns returns, with the lent words v and the text buffer d
  abbrev pub returned_by : ℕ → List ℕ → List ℕ → ℕ
  returned_by j v d = (row_numbers release (words_decision release (take (2 * j) (pack_columns cs)) s v d)).returned

  -- column k lacks bytes: the words of so many columns are too short exactly where its own are among them, whatever the lent words and the text buffers hold
  pub record LackingWords (k : ℕ) : Type 0 where
    pub covers : k < length cs
    pub without : (j : ℕ) (v d : List ℕ) → 3 * length cs ≤ length v → j ≤ k → returned_by j v d ≡ 8 → ⊥
    pub with_it : (j : ℕ) (v d : List ℕ) → 3 * length cs ≤ length v → k < j → j ≤ length cs → returned_by j v d ≡ 8

  first_answer : (j : ℕ) (d : List ℕ) → j ≤ length cs → row_answer release (column_list (take j cs)) s d ≡ row_answer release (first_columns j (column_list cs)) s d
  unfolding row_answer
  first_answer j d h = ap (λ (e : Decision). cond (is_release release) (answer_of (conversions_of release) e) (refused_row 22 [])) (first_decision (conversions_of release) j cs s d h)

  same_returned : (j : ℕ) (v d : List ℕ) → 3 * length cs ≤ length v → j ≤ length cs → returned_by j v d ≡ told_number (row_answer release (first_columns j (column_list cs)) s d).outcome
  same_returned j v d room h =
      let n = length-take-le j cs h in
      ap (λ (w : List ℕ). (row_numbers release (words_decision release w s v d)).returned) (first_words j cs)
      ∙ same_number release (take j cs) (first_fit j cs fit) (omega (arith, n)) s v d (omega (arith, n, room))
      ∙ ap (λ (a : RowTold). told_number a.outcome) (first_answer j d h)

  lacking_words : (vs : List ℕ) (k : ℕ) → Lacking (row_answer release) (column_list cs) s vs k → LackingWords k
  unfolding column_list
  lacking_words vs k f = record { covers = f.covers; without = without'; with_it = with' }
    where
      without' : (j : ℕ) (v d : List ℕ) → 3 * length cs ≤ length v → j ≤ k → returned_by j v d ≡ 8 → ⊥
      without' j v d room l z =
          let below = f.covers in
          let o = is_8 (row_answer release (first_columns j (column_list cs)) s d).outcome (sym (same_returned j v d room (omega arith)) ∙ z) in
          f.without j d o.0 l o.1

      with' : (j : ℕ) (v d : List ℕ) → 3 * length cs ≤ length v → k < j → j ≤ length cs → returned_by j v d ≡ 8
      with' j v d room l m = same_returned j v d room m ∙ ap (λ (a : RowTold). told_number a.outcome) (f.with_it j d l m)

  pub short_words : (v d : List ℕ) → 3 * length cs ≤ length v → (row_numbers release (words_decision release (pack_columns cs) s v d)).returned ≡ 8 → (k : ℕ) × LackingWords k
  short_words v d room h =
      let o = is_8 (row_answer release (column_list cs) s d).outcome (sym (same_number release cs fit few s v d room) ∙ h) in
      let r = short_column release (column_list cs) s d o.0 o.1 in
      (r.0, lacking_words o.0 r.0 r.1)
