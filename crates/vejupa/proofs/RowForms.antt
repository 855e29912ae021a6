-- The row call on words and decode_row are one call: for the words of columns, vejupa_raw_decode_row hands out what decode_row answers for those columns in
-- their places. Assumes nothing.
use Prim.Native.Nat.{ℕ, suc, ◌+◌, ◌-◌, ◌*◌, ◌/◌, ◌≤◌, ◌<◌}
use mathlib.Core.Path.{◌≡◌, refl, sym, ap, ◌∙◌, subst}
use mathlib.Core.Bool.{Bool, true, false, cond, not}
use mathlib.Core.List.{List, [], ◌∷◌, ◌++◌}
use mathlib.Core.Logic.{◌⊎◌, inl, inr}
use native.Mathlib.Omega.{arith}
use borrow.Author.Tests.{le-ltb}
use lib.ListN.{length, take, drop, get_or, replicate}
use lib.Seq.{take_at, length-take-le, get_or-take}
use Rattle.refusal.specs.Refusal.{Told, accepted, refused, told_number}
use Rattle.buffer.specs.Buffer.{overwritten}
use Rattle.types.specs.declared.ColumnDescriptor.{ColumnDescriptor}
use Rattle.types.specs.declared.Columns.{Columns}
use Rattle.types.specs.declared.ValuePlace.{ValuePlace}
use Rattle.types.specs.Places.{max_columns, filled, blank_value, column_list}
use Rattle.rules.specs.Walk.{column_need, Cell, cell_of, Walk, walk, walk_body, walk_row, skip_of}
use Rattle.rules.specs.Row.{RowTold, Decision, refuse, accept, covered, row_values, row_decision, answer_of, text_after, answer_with, text_with, refused_row}
use Rattle.rules.specs.Meaning.{Conversions}
use Rattle.conversion.specs.Conversion.{is_release}
use Rattle.rules.specs.Conversions.{conversions_of, row_answer, row_text}
use Rattle.rules.proofs.Walks.{is_done, pieces_of, walk_step, walk_first}
use Rattle.rules.proofs.Demand3.{facts}
use Rattle.rules.proofs.Progress.{values_length}
use Rattle.rules.proofs.Accepted.{all_places, at_accepted}
use Rattle.triplets.specs.Triplets.{breaks_off}
use Rattle.triplets.specs.Descriptors.{columns_of}
use Rattle.qrydsc.specs.Qrydsc.{numbered, DescriptionTold, description, whole_description}
use Rattle.qrydsc.specs.Entries.{entry_answer}
use Rattle.qrydsc.proofs.Lists.{length_numbered}
use Rattle.description_words.proofs.Fitting.{description_fits}
use Rattle.words.specs.Words.{pack_columns}
use Rattle.words.specs.Values.{pack_values}
use Rattle.words.specs.ValueReading.{value_named}
use Rattle.words.proofs.Columns.{AllFit, reads_columns, packed_length_lem}
use Rattle.words.proofs.Packed.{three, packed_at}
use Rattle.words.proofs.Values.{InRange, reads_value}
use Rattle.unicode_standard.specs.Laws.{AreBytes}
use Rattle.unicode_standard.proofs.Bytes.{bytes_drop}
use Rattle.row_words.specs.Rows.{values_after}
use Rattle.vejupa.proofs.RowCall.{covered_list}
use Rattle.vejupa.proofs.Described.{listing, Refuses, Accepts, sorted}
use Rattle.rules.specs.Value.{value_bytes, texts_together}
use Rattle.rules.proofs.Answers.{filled_together}
use Rattle.vejupa.specs.Rows.{decided, words_decision, row_numbers, words_left, text_left, words_bytes}
use Rattle.vejupa.specs.Answers.{value_with}
use Rattle.vejupa.proofs.ValueBytes.{three_bytes}
use Rattle.vejupa.proofs.ValueRanges.{cons_all, walk_range, AllInRange, values_range, at_range}

-- the lent words v after an answer: of an accepted row the words of its values lie over the first
abbrev pub values_by : Told → List ValuePlace → List ℕ → List ℕ
values_by accepted values v = overwritten (pack_values values) v
values_by (refused n vs) values v = v

-- refusal m's value at place k, where that is the outcome; else n of an accepted row, and 0
abbrev pub beside_answer : ℕ → ℕ → Told → ℕ → ℕ
beside_answer m k accepted n = n
beside_answer m k (refused r vs) n = value_with m k r vs

-- ---- an accepted row has a value for each column

walk_all : (start : ℕ) (cs : List ColumnDescriptor) (at : ℕ) (s : List ℕ) → is_done (walk start cs at s) ≡ true → length (pieces_of (walk start cs at s)) ≡ length cs
unfolding walk
walk_all start [] at s h = refl
walk_all start (c ∷ cs) at s h =
    let k = column_need c s in
    let e = walk_step start c cs at s k refl (walk_first start c cs at s h) in
    let a = cons_all (cell_of c.nullable c at (take k s)) (walk start cs (at + k) (drop k s)) (rw e at h) in
    ap (λ (w : Walk). length (pieces_of w)) e ∙ ap length a.1 ∙ ap suc (walk_all start cs (at + k) (drop k s) a.0)

first_places : (L : Conversions) (cs : List ColumnDescriptor) (s d : List ℕ) (ps : List Cell) (n : ℕ) → row_decision L (column_list cs) s d ≡ accept ps n
    → take (length cs) (filled blank_value (row_values L ps 0)) ≡ row_values L ps 0
unfolding filled answer_of walk_body
first_places L cs s d ps n e =
    let f = facts L (column_list cs) s d (ap (λ (x : Decision). (answer_of L x).outcome) e) in
    let same : ps ≡ pieces_of (walk_row (covered (column_list cs)) s) = let decided = f.decided in cc in
    let all = walk_all (skip_of s) (covered (column_list cs)) (skip_of s) (drop (skip_of s) s) f.over in
    let count : length (row_values L ps 0) ≡ length cs = values_length L ps 0 ∙ ap length same ∙ all ∙ ap length (covered_list cs) in
    take_at (row_values L ps 0) (replicate (max_columns - length (row_values L ps 0)) blank_value) (length cs) count

-- what decode_row decides: refusal 22, and then by the columns and the row
abbrev pub decision_at : ℕ → Columns → List ℕ → List ℕ → Decision
decision_at release columns s d = cond (is_release release) (row_decision (conversions_of release) columns s d) (refuse 22 [])

pub answer_at : (release : ℕ) (columns : Columns) (s d : List ℕ) → row_answer release columns s d ≡ answer_of (conversions_of release) (decision_at release columns s d)
unfolding row_answer answer_of
answer_at release columns s d = go (is_release release)
  where
    go : (x : Bool) → cond x (answer_with (conversions_of release) columns s d) (refused_row 22 []) ≡ answer_of (conversions_of release) (cond x (row_decision (conversions_of release) columns s d) (refuse 22 []))
    go true = refl
    go false = refl

text_at : (release : ℕ) (columns : Columns) (s d : List ℕ) → row_text release columns s d ≡ text_after (conversions_of release) (decision_at release columns s d) d
unfolding row_text text_after
text_at release columns s d = go (is_release release)
  where
    go : (x : Bool) → cond x (text_with (conversions_of release) columns s d) d ≡ text_after (conversions_of release) (cond x (row_decision (conversions_of release) columns s d) (refuse 22 [])) d
    go true = refl
    go false = refl

-- an acceptance is at the release's conversions
accept_at : (release : ℕ) (columns : Columns) (s d : List ℕ) {ps : List Cell} {n : ℕ} → decision_at release columns s d ≡ accept ps n → row_decision (conversions_of release) columns s d ≡ accept ps n
accept_at release columns s d {ps} {n} = go (is_release release)
  where
    go : (x : Bool) → cond x (row_decision (conversions_of release) columns s d) (refuse 22 []) ≡ accept ps n → row_decision (conversions_of release) columns s d ≡ accept ps n
    go true e = e
    go false e = let z : ◌≡◌ {A = ℕ} 0 1 = cc in absurd (omega arith)

module _ (release : ℕ) (cs : List ColumnDescriptor) (fit : AllFit cs) (few : length cs ≤ max_columns) (s v d : List ℕ) (room : 3 * length cs ≤ length v) where
  half : length (pack_columns cs) / 2 ≡ length cs
  half = omega (arith, packed_length_lem cs)

  abbrev L : Conversions
  L = conversions_of release

  abbrev decision : Decision
  decision = decision_at release (column_list cs) s d

  pub same_decision : words_decision release (pack_columns cs) s v d ≡ decided decision
  unfolding words_decision
  same_decision = rw (half, le-ltb max_columns (length cs) few, le-ltb (length v) (3 * length cs) room, reads_columns cs fit) (go (is_release release))
    where
      go : (x : Bool) → cond (not x) (decided (refuse 22 [])) (decided (row_decision L (column_list cs) s d)) ≡ decided (cond x (row_decision L (column_list cs) s d) (refuse 22 []))
      go true = refl
      go false = refl

  told_returned : (e : Decision) → (row_numbers release (decided e)).returned ≡ told_number (answer_of L e).outcome
  unfolding answer_of
  told_returned (refuse n vs) = refl
  told_returned (accept ps n) = refl

  told_used : (e : Decision) → (row_numbers release (decided e)).used ≡ (answer_of L e).used
  unfolding answer_of
  told_used (refuse n vs) = refl
  told_used (accept ps n) = refl

  told_length_lem : (e : Decision) → (row_numbers release (decided e)).text_length ≡ beside_answer 9 0 (answer_of L e).outcome (texts_together (answer_of L e).places)
  unfolding answer_of
  told_length_lem (refuse n vs) = refl
  told_length_lem (accept ps n) = sym (filled_together L ps)

  told_replaced : (e : Decision) → (row_numbers release (decided e)).replaced ≡ (answer_of L e).replaced
  unfolding answer_of
  told_replaced (refuse n vs) = refl
  told_replaced (accept ps n) = refl

  told_expected : (e : Decision) → (row_numbers release (decided e)).expected ≡ beside_answer 8 0 (answer_of L e).outcome 0
  unfolding answer_of
  told_expected (refuse n vs) = refl
  told_expected (accept ps n) = refl

  told_actual : (e : Decision) → (row_numbers release (decided e)).actual ≡ beside_answer 8 1 (answer_of L e).outcome 0
  unfolding answer_of
  told_actual (refuse n vs) = refl
  told_actual (accept ps n) = refl

  -- the number returned is that of decode_row's outcome, and the bytes used and what was replaced are its; the texts' length is that of the texts that it hands
  -- out, or with refusal 9 its value; refusal 8's values are its values
  pub same_number : (row_numbers release (words_decision release (pack_columns cs) s v d)).returned ≡ told_number (row_answer release (column_list cs) s d).outcome
  same_number = rw (same_decision, answer_at release (column_list cs) s d) (told_returned decision)

  pub same_used : (row_numbers release (words_decision release (pack_columns cs) s v d)).used ≡ (row_answer release (column_list cs) s d).used
  same_used = rw (same_decision, answer_at release (column_list cs) s d) (told_used decision)

  pub same_text_length : (row_numbers release (words_decision release (pack_columns cs) s v d)).text_length ≡ beside_answer 9 0 (row_answer release (column_list cs) s d).outcome (texts_together (row_answer release (column_list cs) s d).places)
  same_text_length = rw (same_decision, answer_at release (column_list cs) s d) (told_length_lem decision)

  pub same_replaced : (row_numbers release (words_decision release (pack_columns cs) s v d)).replaced ≡ (row_answer release (column_list cs) s d).replaced
  same_replaced = rw (same_decision, answer_at release (column_list cs) s d) (told_replaced decision)

  pub same_expected : (row_numbers release (words_decision release (pack_columns cs) s v d)).expected ≡ beside_answer 8 0 (row_answer release (column_list cs) s d).outcome 0
  same_expected = rw (same_decision, answer_at release (column_list cs) s d) (told_expected decision)

  pub same_actual : (row_numbers release (words_decision release (pack_columns cs) s v d)).actual ≡ beside_answer 8 1 (row_answer release (column_list cs) s d).outcome 0
  same_actual = rw (same_decision, answer_at release (column_list cs) s d) (told_actual decision)

  -- the text buffer is left as decode_row leaves it
  pub same_text : text_left release (words_decision release (pack_columns cs) s v d) d ≡ row_text release (column_list cs) s d
  same_text = rw (same_decision, text_at release (column_list cs) s d)

  -- the words of values are those of the values that decode_row hands out, one for each column
  pub same_values : words_left release (words_decision release (pack_columns cs) s v d) v ≡ values_by (row_answer release (column_list cs) s d).outcome (take (length cs) (row_answer release (column_list cs) s d).places) v
  unfolding answer_of
  same_values = rw (same_decision, answer_at release (column_list cs) s d) (go decision refl)
    where
      go : (x : Decision) → decision ≡ x → values_after release x v ≡ values_by (answer_of L x).outcome (take (length cs) (answer_of L x).places) v
      go (refuse n vs) e = refl
      go (accept ps n) e = rw (first_places L cs s d ps n (accept_at release (column_list cs) s d e))

  -- an accepted row's words, from those of value k on
  module _ (e : (row_answer release (column_list cs) s d).outcome ≡ accepted) (k : ℕ) (h : k < length cs) where
    places : List ValuePlace
    places = (row_answer release (column_list cs) s d).places

    many : length (take (length cs) places) ≡ length cs
    unfolding places
    many = length-take-le (length cs) places (omega (arith, all_places release (column_list cs) s d))

    from : List ℕ
    from = drop (3 * k) (words_left release (words_decision release (pack_columns cs) s v d) v)

    behind : List ℕ
    behind = pack_values (drop (suc k) (take (length cs) places)) ++ drop (length (pack_values (take (length cs) places))) v

    words_are : from ≡ three (get_or places k blank_value) ++ behind
    unfolding from behind places
    words_are =
        ap (drop (3 * k)) (same_values ∙ ap (λ (o : Told). values_by o (take (length cs) places) v) e)
        ∙ packed_at (take (length cs) places) k blank_value (drop (length (pack_values (take (length cs) places))) v) (omega (arith, many))
        ∙ ap (λ (p : ValuePlace). three p ++ behind) (get_or-take (length cs) places k blank_value h)

    -- of them vejupa_raw_value_bytes shows what value_bytes shows of value k of decode_row, whatever the text buffer t
    pub same_bytes_lem : (t : List ℕ)
        → words_bytes (drop (3 * k) (words_left release (words_decision release (pack_columns cs) s v d) v)) s t ≡ value_bytes (get_or (row_answer release (column_list cs) s d).places k blank_value).value s t
    unfolding from places
    same_bytes_lem t = ap (λ (w : List ℕ). words_bytes w s t) words_are ∙ three_bytes (get_or places k blank_value) behind s t

    in_range_lem : AreBytes s → InRange (get_or places k blank_value).value
    unfolding places answer_of walk_body
    in_range_lem bytes =
        let a = at_accepted release (column_list cs) s d e in
        let f = facts L (column_list cs) s d (ap (λ (r : RowTold). r.outcome) a ∙ e) in
        let ps = pieces_of (walk_row (covered (column_list cs)) s) in
        let first = first_places L cs s d ps _ f.decided in
        let all : AllInRange (row_values L ps 0) = values_range release ps 0 (walk_range release (skip_of s) (covered (column_list cs)) (skip_of s) (drop (skip_of s) s) (rw (covered_list cs) fit) (bytes_drop (skip_of s) s bytes) f.over) in
        let here : get_or places k blank_value ≡ get_or (row_values L ps 0) k blank_value =
        ap (λ (r : RowTold). get_or r.places k blank_value) (sym a) ∙ ap (λ (x : Decision). get_or (answer_of L x).places k blank_value) f.decided ∙ sym (get_or-take (length cs) (filled blank_value (row_values L ps 0)) k blank_value h) ∙ ap (λ (l : List ValuePlace). get_or l k blank_value) first in
        subst (λ (p : ValuePlace). InRange p.value) (sym here) (at_range (row_values L ps 0) k all)

    -- of a row of bytes they name value k of decode_row, and whether it is external
    pub same_value : AreBytes s
        → value_named (get_or (drop (3 * k) (words_left release (words_decision release (pack_columns cs) s v d) v)) 0 0) (get_or (drop (3 * k) (words_left release (words_decision release (pack_columns cs) s v d) v)) 1 0)
        (get_or (drop (3 * k) (words_left release (words_decision release (pack_columns cs) s v d) v)) 2 0)
        ≡ get_or (row_answer release (column_list cs) s d).places k blank_value
    unfolding from places
    same_value bytes = ap (λ (w : List ℕ). value_named (get_or w 0 0) (get_or w 1 0) (get_or w 2 0)) words_are ∙ reads_value (get_or places k blank_value) (in_range_lem bytes)

-- ---- from a description to a row: the words that a description call writes are taken by vejupa_raw_decode_row as the columns that the call by value hands out, never as none

module _ (release : ℕ) (s v d : List ℕ) where
  abbrev Taken : DescriptionTold → Type 0
  Taken r = r.outcome ≡ accepted → 3 * r.columns.count ≤ length v → words_decision release (pack_columns (covered r.columns)) s v d ≡ decided (decision_at release r.columns s d)

  listed_taken : (q : List ℕ) → AreBytes q → length (columns_of q) ≤ max_columns → (b : Bool) → Taken (record { outcome = accepted; columns = listing (columns_of q); broken_off = b })
  unfolding listing column_list
  listed_taken q h few b a room =
      let cs = numbered 0 (columns_of q) in
      let n = length_numbered 0 (columns_of q) in
      rw (covered_list cs) (same_decision release cs (description_fits q h (omega arith)) (omega (arith, n, few)) s v d room)

  entry_row : (whole : Bool) (q : List ℕ) → AreBytes q → Taken (entry_answer whole q)
  entry_row whole q h = go (sorted q whole)
    where
      go : Refuses (entry_answer whole q) ⊎ Accepts q (entry_answer whole q) → Taken (entry_answer whole q)
      go (inl r) = λ a room. absurd (let n = ap told_number (sym (ap (λ (t : DescriptionTold). t.outcome) r.said) ∙ a) in let p = r.some in omega arith)
      go (inr a) = subst Taken (sym a.said) (listed_taken q h a.few (breaks_off q))

  pub described_row : (q : List ℕ) → AreBytes q → Taken (description q)
  described_row = entry_row false

  pub described_row_whole : (q : List ℕ) → AreBytes q → Taken (whole_description q)
  described_row_whole = entry_row true
