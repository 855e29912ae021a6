-- What vejupa_raw_decode_row promises, at each of its ways out. Assumes nothing.
use Prim.Native.Nat.{ℕ, ◌-◌, ◌*◌, ◌/◌, ◌≤◌, ◌<◌}
use mathlib.Core.Path.{◌≡◌, refl, sym, ap, ◌∙◌}
use mathlib.Core.Bool.{Bool, true, false}
use mathlib.Core.List.{List}
use Rattle.std.proofs.Common.{rules}
use Rattle.std.specs.Prelude.{Option, Some, None, Ok, Err}
use native.Mathlib.Omega.{arith}
use borrow.Author.Tests.{lt-ltb, le-ltb}
use lib.ListN.{length, replicate}
use lib.Seq.{take_at}
use Rattle.refusal.specs.Refusal.{input_limit}
use Rattle.types.specs.declared.ColumnDescriptor.{ColumnDescriptor}
use Rattle.types.specs.Places.{max_columns, filled, blank_column, column_list}
use Rattle.rules.specs.Walk.{skip_of}
use Rattle.rules.specs.Row.{any_dec_float, covered, body_decision, row_decision, text_after}
use Rattle.rules.specs.Conversions.{conversions_of}
use Rattle.conversion.specs.Conversion.{is_release}
use Rattle.words.specs.Reading.{read_columns}
use Rattle.row_words.specs.declared.Taken.{Taken}
use Rattle.row_words.specs.declared.RowError.TheVariants.{TooShort, TextTooShort}
use Rattle.row_words.specs.Rows.{values_after}
use Rattle.row_words.specs.Passes.{checked_of, columns_named, Says}
use Rattle.row_words.proofs.Named.{named_length, read_named}
use Rattle.vejupa.specs.Answers.{too_few_number, no_column_number}
use Rattle.vejupa.specs.Rows.{OnWords, decided, decision_for, words_decision, row_numbers, words_left, text_left}

-- ---- the columns of a list in its places

pub covered_list : (cs : List ColumnDescriptor) → covered (column_list cs) ≡ cs
unfolding column_list filled
covered_list cs = take_at cs (replicate (max_columns - length cs) blank_column) (length cs) refl

-- ---- what was found of the words

no_columns : (x : Option (List ColumnDescriptor)) → None ≡ checked_of x → x ≡ None
no_columns (Some cs) h = let z : ◌≡◌ {A = ℕ} 0 1 = cc in absurd (omega arith)
no_columns None h = refl

pub record Found (x : Option (List ColumnDescriptor)) (k : Bool) : Type 0 where
  pub columns : List ColumnDescriptor
  pub read : x ≡ Some columns
  pub floats : k ≡ any_dec_float columns

found : (x : Option (List ColumnDescriptor)) (k : Bool) → Some k ≡ checked_of x → Found x k
found (Some cs) k h = record { columns = cs; read = refl; floats = cc }
found None k h = let z : ◌≡◌ {A = ℕ} 0 1 = cc in absurd (omega arith)

-- what the call hands out: its number, the bytes used, the texts' length, refusal 8's values, the words of values, the text buffer and how many U+FFFD were put in
abbrev pub Handed : ℕ → OnWords → List ℕ → List ℕ → ℕ → ℕ → ℕ → ℕ → ℕ → List ℕ → List ℕ → ℕ → Type 0
Handed release e v d r n m x y words out k =
    record {
      number : r ≡ (row_numbers release e).returned;
      used : n ≡ (row_numbers release e).used;
      length : m ≡ (row_numbers release e).text_length;
      expected : x ≡ (row_numbers release e).expected;
      actual : y ≡ (row_numbers release e).actual;
      values : words ≡ words_left release e v;
      text : out ≡ text_left release e d;
      replaced : k ≡ (row_numbers release e).replaced;
    }

module _ (release : ℕ) (w s v d : List ℕ) where
  pub unknown : is_release release ≡ false → Handed release (words_decision release w s v d) v d 22 0 0 0 0 v d 0
  unfolding words_decision text_after
  unknown h = rw h (search rules)

  pub too_many : is_release release ≡ true → max_columns < length w / 2 → Handed release (words_decision release w s v d) v d 3 0 0 0 0 v d 0
  unfolding words_decision text_after
  too_many known h = rw (known, lt-ltb max_columns (length w / 2) h) (search rules)

  module _ (known : is_release release ≡ true) (few : length w / 2 ≤ max_columns) where
    pub too_few_lem : length v < 3 * (length w / 2) → Handed release (words_decision release w s v d) v d too_few_number 0 0 0 0 v d 0
    unfolding words_decision text_after
    too_few_lem h = rw (known, le-ltb max_columns (length w / 2) few, lt-ltb (length v) (3 * (length w / 2)) h) (search rules)

    module _ (room : 3 * (length w / 2) ≤ length v) where
      by_columns : words_decision release w s v d ≡ decision_for release (read_columns w) s d
      unfolding words_decision
      by_columns = rw (known, le-ltb max_columns (length w / 2) few, le-ltb (length v) (3 * (length w / 2)) room)

      pub no_column : None ≡ checked_of (read_columns w) → Handed release (words_decision release w s v d) v d no_column_number 0 0 0 0 v d 0
      unfolding text_after
      no_column h = rw (by_columns, no_columns (read_columns w) h) (search rules)

      module _ (k : Bool) (h : Some k ≡ checked_of (read_columns w)) where
        here : Found (read_columns w) k
        here = found (read_columns w) k h

        named : columns_named w ≡ here.columns
        named = read_named w here.columns here.read

        as_row : words_decision release w s v d ≡ decided (row_decision (conversions_of release) (column_list here.columns) s d)
        as_row = by_columns ∙ ap (λ (x : Option (List ColumnDescriptor)). decision_for release x s d) here.read

        count_fits : (column_list here.columns).count ≤ max_columns
        unfolding column_list
        count_fits = omega (arith, few, named_length w, ap length named)

        pub too_long : input_limit < length s → Handed release (words_decision release w s v d) v d 4 0 0 0 0 v d 0
        unfolding row_decision text_after
        too_long l =
            rw (as_row, le-ltb max_columns (column_list here.columns).count count_fits, lt-ltb input_limit (length s) l)
            (search rules)

        module _ (short : length s ≤ input_limit) where
          pub dec_float : k ≡ true → Handed release (words_decision release w s v d) v d 5 0 0 0 0 v d 0
          unfolding row_decision text_after
          dec_float l =
              let e : any_dec_float (covered (column_list here.columns)) ≡ true = rw (covered_list here.columns) (sym here.floats ∙ l) in
              rw (as_row, le-ltb max_columns (column_list here.columns).count count_fits, le-ltb input_limit (length s) short, e)
              (search rules)

          module _ (l : k ≡ false) where
            as_body : words_decision release w s v d ≡ decided (body_decision (conversions_of release) (columns_named w) (skip_of s) s d)
            unfolding row_decision
            as_body =
                let e : any_dec_float (covered (column_list here.columns)) ≡ false = rw (covered_list here.columns) (sym here.floats ∙ l) in
                as_row
                ∙ rw (le-ltb max_columns (column_list here.columns).count count_fits, le-ltb input_limit (length s) short, e)
                (rw (covered_list here.columns, named))

            -- what the row after these tests leaves
            module _ (words out : List ℕ) (vs : words ≡ values_after release (body_decision (conversions_of release) (columns_named w) (skip_of s) s d) v) (ts : out ≡ text_after (conversions_of release) (body_decision (conversions_of release) (columns_named w) (skip_of s) s d) d) where
              pub accepted_row_lem : (t : Taken) → Says release (Ok t) (body_decision (conversions_of release) (columns_named w) (skip_of s) s d) → Handed release (words_decision release w s v d) v d 0 t.used t.written 0 0 words out t.replaced
              accepted_row_lem t a =
                  let e = a.1.0 in
                  rw (as_body, e) (record { number = refl; used = refl; length = a.1.1.0; expected = refl; actual = refl; values = rw e at vs; text = rw e at ts; replaced = a.1.1.1 })

              pub too_short_lem : (x y : ℕ) → Says release (Err (TooShort x y)) (body_decision (conversions_of release) (columns_named w) (skip_of s) s d) → Handed release (words_decision release w s v d) v d 8 0 0 x y words out 0
              too_short_lem x y e = rw (as_body, e) (record { number = refl; used = refl; length = refl; expected = refl; actual = refl; values = rw e at vs; text = rw e at ts; replaced = refl })

              pub text_short : (x : ℕ) → Says release (Err (TextTooShort x)) (body_decision (conversions_of release) (columns_named w) (skip_of s) s d) → Handed release (words_decision release w s v d) v d 9 0 x 0 0 words out 0
              text_short x e = rw (as_body, e) (record { number = refl; used = refl; length = refl; expected = refl; actual = refl; values = rw e at vs; text = rw e at ts; replaced = refl })
