-- What the description calls promise, at each of their ways out. Assumes nothing.
use Prim.Native.Nat.{ℕ, ◌*◌, ◌≤◌, ◌<◌}
use mathlib.Core.Path.{◌≡◌, refl, sym, ap, subst, ◌∙◌}
use mathlib.Core.Bool.{Bool, true, false, cond, ◌&&◌}
use mathlib.Core.List.{List, []}
use mathlib.Core.Logic.{◌⊎◌, inl, inr}
use native.Mathlib.Omega.{arith}
use lib.Dec.{ltb}
use lib.ListN.{length}
use borrow.Author.Tests.{lt-ltb, le-ltb, ltb-true, ltb-false}
use Rattle.std.specs.Prelude.{Result, Ok}
use Rattle.refusal.specs.declared.Refusal.{Refusal}
use Rattle.refusal.specs.declared.Refusal.TheVariants.{QrydscTooLong, TooManyColumns, CountTooLarge, InputTooLong, DecFloatColumn, DecimalEmpty, DecimalTooLong, BufferTooShort, TextBufferTooShort, DecimalDigit, DecimalSign, DecimalOutOfRange, QrydscBrokenOff, UnknownRelease}
use Rattle.refusal.specs.Refusal.{accepted, refusal_number, told, told_number}
use Rattle.buffer.specs.Buffer.{overwritten}
use Rattle.types.specs.declared.ColumnDescriptor.{ColumnDescriptor}
use Rattle.types.specs.declared.Columns.{Columns}
use Rattle.types.specs.Places.{max_columns, column_list}
use Rattle.triplets.specs.Triplets.{breaks_off}
use Rattle.triplets.specs.Descriptors.{columns_of}
use Rattle.triplets.specs.Steps.{end_from}
use Rattle.triplets.proofs.StepLaws.{breaks_before}
use Rattle.qrydsc.specs.Qrydsc.{DescriptionTold, numbered, refused_description, list_answer, max_qrydsc}
use Rattle.qrydsc.specs.Entries.{entry_answer, full_answer}
use Rattle.qrydsc.proofs.Lists.{length_numbered}
use Rattle.qrydsc.proofs.Entries.{too_long, answer_within, within_limit, full_entry, told_full}
use Rattle.description_words.specs.Counted.{Counted}
use Rattle.rules.specs.Row.{covered}
use Rattle.words.specs.Words.{pack_columns}
use Rattle.vejupa.specs.Descriptions.{too_few, description_number, description_words, broken_off_number}
use Rattle.vejupa.proofs.RowCall.{covered_list}

-- what a call hands out: a number, a count, whether the description breaks off, and the words
abbrev pub Promised : DescriptionTold → List ℕ → ℕ → ℕ → ℕ → List ℕ → Type 0
Promised d w r n b out =
    record {
      number : r ≡ description_number d w;
      count : n ≡ d.columns.count;
      broken_off : b ≡ broken_off_number d w;
      words : out ≡ description_words d w;
    }

-- a list of columns in its places
unfoldable pub listing : List ColumnDescriptor → Columns
listing cs = column_list (numbered 0 cs)

count_listing : (cs : List ColumnDescriptor) → (listing cs).count ≡ length cs
unfolding listing column_list
count_listing cs = length_numbered 0 cs

columns_listing : (cs : List ColumnDescriptor) → covered (listing cs) ≡ numbered 0 cs
unfolding listing
columns_listing cs = covered_list (numbered 0 cs)

-- ---- the two sorts of answers

pub record Refuses (d : DescriptionTold) : Type 0 where
  pub number : ℕ
  pub some : 1 ≤ number
  pub said : d ≡ refused_description number []

pub record Accepts (s : List ℕ) (d : DescriptionTold) : Type 0 where
  pub few : length (columns_of s) ≤ max_columns
  pub said : d ≡ (record { outcome = accepted; columns = listing (columns_of s); broken_off = breaks_off s })

abbrev Sorted : List ℕ → DescriptionTold → Type 0
Sorted s d = Refuses d ⊎ Accepts s d

module _ (s : List ℕ) where
  listed : (b : Bool) → breaks_off s ≡ b → Sorted s (list_answer b (columns_of s))
  unfolding list_answer listing
  listed b e = go (ltb max_columns (length (columns_of s))) refl
    where
      go : (m : Bool) → ltb max_columns (length (columns_of s)) ≡ m → Sorted s (list_answer b (columns_of s))
      go true t = inl (record { number = 2; some = omega arith; said = rw t })
      go false t = inr (record { few = ltb-false max_columns (length (columns_of s)) t; said = rw (t, e) })

  inside : (whole b : Bool) → breaks_off s ≡ b → Sorted s (answer_within whole b s)
  inside true true e = inl (record { number = 15; some = omega arith; said = refl })
  inside true false e = listed false e
  inside false b e = listed b e

  pub sorted : (whole : Bool) → Sorted s (entry_answer whole s)
  sorted whole = go (ltb max_qrydsc (length s)) refl
    where
      go : (m : Bool) → ltb max_qrydsc (length s) ≡ m → Sorted s (entry_answer whole s)
      go true t = inl (record { number = 1; some = omega arith; said = sym (too_long whole s (ltb-true max_qrydsc (length s) t)) })
      go false t = subst (Sorted s) (within_limit whole s (ltb-false max_qrydsc (length s) t)) (inside whole (breaks_off s) refl)

-- ---- the refusal's number, once the columns are counted

abbrev number_of : DescriptionTold → ℕ
number_of d = told_number d.outcome

module _ {s : List ℕ} (short : length s ≤ max_qrydsc) {n end : ℕ} (c : Counted s n end) where
  pub counted_full : (whole : Bool) → max_columns < n → {r : Refusal} → r ≡ cond (whole && ltb (end_from s end) (length s)) QrydscBrokenOff TooManyColumns
      → refusal_number r ≡ number_of (entry_answer whole s)
  unfolding list_answer
  counted_full whole h {r} e =
      ap number_of (told_full whole (end_from s end) (length s) r e)
      ∙ ap (λ (m : ℕ). number_of (full_answer whole m (length s))) c.ends
      ∙ ap number_of (full_entry whole s short (λ b. rw (lt-ltb max_columns (length (columns_of s)) (c.more h))))

  module _ (few : n ≤ max_columns) where
    none_refused : (b : Bool) → 0 ≡ number_of (list_answer b (columns_of s))
    unfolding list_answer
    none_refused b = let e = c.all few in rw (le-ltb max_columns (length (columns_of s)) (omega arith))

    breaks : ltb end (length s) ≡ breaks_off s
    breaks = ap (λ (m : ℕ). ltb m (length s)) (c.ended few) ∙ breaks_before s

    at_end : (whole b : Bool) → ltb end (length s) ≡ b → answer_within whole b s ≡ entry_answer whole s
    at_end whole b t = subst (λ (f : Bool). answer_within whole f s ≡ entry_answer whole s) (sym breaks ∙ t) (within_limit whole s short)

    pub counted_broken : (whole : Bool) → whole ≡ true → end < length s → 15 ≡ number_of (entry_answer whole s)
    counted_broken whole w h = rw w (ap number_of (at_end true true (lt-ltb end (length s) h)))

    -- it breaks off and any is taken, or it is whole
    pub counted_end : (whole : Bool) → ((whole ≡ true) × (length s ≤ end)) ⊎ (whole ≡ false) → 0 ≡ number_of (entry_answer whole s)
    counted_end true (inl h) = none_refused false ∙ ap number_of (at_end true false (le-ltb end (length s) h.1))
    counted_end true (inr w) = let z : ◌≡◌ {A = ℕ} 0 1 = cc in absurd (omega arith)
    counted_end false h = none_refused (breaks_off s) ∙ ap number_of (within_limit false s short)

-- a refusal's number is not 0
pub refusal_some : (r : Refusal) → refusal_number r ≡ 0 → ⊥
refusal_some QrydscTooLong h = omega arith
refusal_some TooManyColumns h = omega arith
refusal_some CountTooLarge h = omega arith
refusal_some InputTooLong h = omega arith
refusal_some DecFloatColumn h = omega arith
refusal_some DecimalEmpty h = omega arith
refusal_some DecimalTooLong h = omega arith
refusal_some (BufferTooShort expected actual) h = omega arith
refusal_some (TextBufferTooShort needed) h = omega arith
refusal_some DecimalDigit h = omega arith
refusal_some DecimalSign h = omega arith
refusal_some DecimalOutOfRange h = omega arith
refusal_some QrydscBrokenOff h = omega arith
refusal_some UnknownRelease h = omega arith

-- what is taken has the number 0
pub taken_is : {r : Result (Unit {0}) Refusal} {n : ℕ} {u : Unit {0}} → r ≡ Ok u → told_number (told r) ≡ n → 0 ≡ n
taken_is e h = rw e at h

-- ---- the ways out

module _ (whole : Bool) (s : List ℕ) where
  pub accepting : 0 ≡ told_number (entry_answer whole s).outcome → Accepts s (entry_answer whole s)
  accepting e = go (sorted s whole)
    where
      go : Sorted s (entry_answer whole s) → Accepts s (entry_answer whole s)
      go (inl r) =
          let q : 0 ≡ r.number = e ∙ ap (λ (d : DescriptionTold). told_number d.outcome) r.said in
          let p = r.some in
          absurd (omega arith)
      go (inr a) = a

  module _ (a : Accepts s (entry_answer whole s)) {n end : ℕ} (c : Counted s n end) where
    within_list : n ≤ max_columns
    within_list = go (ltb max_columns n) refl
      where
        go : (b : Bool) → ltb max_columns n ≡ b → n ≤ max_columns
        go true t = let f = a.few in let m = c.more (ltb-true max_columns n t) in absurd (omega arith)
        go false t = ltb-false max_columns n t

    pub all_counted : (n ≡ length (columns_of s)) × (n ≤ max_columns)
    all_counted = (c.all within_list, within_list)

module _ (whole : Bool) (s w : List ℕ) where
  pub refused_call : (m : ℕ) → m ≡ told_number (entry_answer whole s).outcome → (m ≡ 0 → ⊥) → Promised (entry_answer whole s) w m 0 0 w
  unfolding column_list
  refused_call m e z = go (sorted s whole)
    where
      go : Sorted s (entry_answer whole s) → Promised (entry_answer whole s) w m 0 0 w
      go (inl r) =
          let q : m ≡ r.number = e ∙ ap (λ (d : DescriptionTold). told_number d.outcome) r.said in
          rw r.said (record { number = q; count = refl; broken_off = rw (le-ltb (length w) (2 * 0) (omega arith)); words = refl })
      go (inr a) = absurd (z (e ∙ ap (λ (d : DescriptionTold). told_number d.outcome) a.said))

  pub too_long_call : max_qrydsc < length s → Promised (entry_answer whole s) w 1 0 0 w
  too_long_call h = refused_call 1 (ap (λ (d : DescriptionTold). told_number d.outcome) (too_long whole s h)) (λ z. omega arith)

  module _ (a : Accepts s (entry_answer whole s)) {n end : ℕ} (c : Counted s n end) where
    pub too_few_lem : length w < 2 * n → Promised (entry_answer whole s) w 101 n 0 w
    too_few_lem f =
        let k = count_listing (columns_of s) in
        let e = c.all (within_list whole s a c) in
        let t : too_few (listing (columns_of s)) w ≡ true = lt-ltb (length w) (2 * (listing (columns_of s)).count) (omega arith) in
        rw (a.said, t) (record { number = refl; count = e ∙ sym k; broken_off = refl; words = refl })

    pub all_written : 2 * n ≤ length w → (out : List ℕ) → out ≡ overwritten (pack_columns (numbered 0 (columns_of s))) w
        → (b : ℕ) → b ≡ cond (ltb end (length s)) 1 0 → Promised (entry_answer whole s) w 0 n b out
    all_written f out q b g =
        let k = count_listing (columns_of s) in
        let e = c.all (within_list whole s a c) in
        let t : too_few (listing (columns_of s)) w ≡ false = le-ltb (length w) (2 * (listing (columns_of s)).count) (omega arith) in
        let t2 : ltb end (length s) ≡ breaks_off s = ap (λ (m : ℕ). ltb m (length s)) (c.ended (within_list whole s a c)) ∙ breaks_before s in
        rw (a.said, t) (record { number = refl; count = e ∙ sym k; broken_off = g ∙ ap (λ (f : Bool). cond f 1 0) t2; words = q ∙ rw (columns_listing (columns_of s)) })
