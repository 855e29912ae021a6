-- The rows of specs/WaitingRows.antt: computed tests over its two tables; and the law of every column that is left out, by the kinds of extent. Assumes nothing.
use Prim.Native.Nat.{ℕ, zero, suc, ◌+◌, ◌<◌}
use mathlib.Core.Path.{◌≡◌, refl, sym, ap, ◌∙◌}
use mathlib.Core.Bool.{Bool, true, false, not, ◌&&◌, ◌||◌, false≢true}
use mathlib.Core.List.{List, [], ◌∷◌, ◌++◌}
use mathlib.Core.Logic.{◌⊎◌, inl, inr, ⊎_elim}
use native.Mathlib.Omega.{arith}
use lib.ListN.{length}
use lib.Dec.{ltb, leb, eqb}
use borrow.Author.Tests.{ltb-true, leb-true, eqb-true, not-true, not-false}
use Rattle.std.proofs.lemmas.Bool.{false_from_ne_true, and_parts, or_cases}
use Rattle.refusal.specs.Refusal.{Told, accepted, refused, told_number, input_limit}
use Rattle.unicode_standard.specs.Laws.{AreBytes}
use Rattle.types.specs.Places.{filled, blank_value, column_list}
use Rattle.types.specs.declared.ColumnDescriptor.{ColumnDescriptor}
use Rattle.numbers.specs.Number.{unsigned}
use Rattle.conversion.specs.Conversion.{locator_text}
use Rattle.conversion.specs.Hex.{hex_text}
use Rattle.rules.specs.declared.Extent.{Extent}
use Rattle.rules.specs.declared.Extent.TheVariants.{Fixed, Counted, Header, Inline, Locator, Materialized}
use Rattle.rules.specs.Extent.{is_reference, says_header, lob_need, need, extent_of}
use Rattle.rules.specs.OwnEnd.{is_lob_of_length0, is_tiny_header, carries_own_end, all_carry_own_end}
use Rattle.rules.specs.Meaning.{all_zero, lob_empty, header_item, lob_reference, lob_item, varying_item, item_in}
use Rattle.rules.specs.Walk.{skip_of, nullable_need, cell_need, column_need, cell_of, cons_cell, cell_short, walk, walk_body, walk_row}
use Rattle.rules.specs.Row.{start_of, value_of, item_text, cell_item, cell_value, row_values, row_texts, any_dec_float, walk_decision, body_decision, row_decision, answer_of}
use Rattle.rules.specs.Conversions.{row_answer}
use Rattle.rules.specs.Exceptions.{room}
use Rattle.rules.specs.Waiting.{filled_need, lacking_by, keeps_acceptance}
use Rattle.rules.specs.WaitingRows.{AllLackMore, AllLackLess, lacking_more, lacking_less, small_int_column, Addition, addition_columns, additions, NotKept, NoneKept, Grows, LeftOut}
use Rattle.rules.proofs.Extents.{is_locator, is_short_header, column_exceptions}
use Rattle.rules.proofs.Walks.{is_done, used_of, walk_step, walk_first, done_walk, short_walk}
use Rattle.rules.proofs.Rows.{skip_two, walk_row_at}
use Rattle.rules.proofs.Waiting.{step_finished}
use Rattle.rules.proofs.Exceptions.{is_accepted, is_accepted_lem, split}
use Rattle.rules.proofs.WaitingCall.{tied}

-- ---- what rows lack

pub distances_lack : AllLackMore lacking_more × AllLackLess lacking_less
unfolding lacking_more lacking_less all_carry_own_end carries_own_end walk_body walk skip_of column_need cell_of cons_cell cell_short need lob_need is_reference unsigned filled_need lacking_by
distances_lack = (
  (
    record { carry = refl; two = omega arith; is_short = refl; number = refl },
    omega arith,
    (record { carry = refl; two = omega arith; is_short = refl; number = refl }, omega arith, tt),
  ),
  (record { carry = refl; two = omega arith; is_short = refl; number = refl }, omega arith, tt),
)

-- ---- rows that do not stay accepted

is_refused : (n : ℕ) (o : Told) → eqb (told_number o) (suc n) ≡ true → (vs : List ℕ) × (o ≡ refused (suc n) vs)
is_refused n accepted e = absurd (omega (arith, eqb-true 0 (suc n) e))
is_refused n (refused m vs) e = (vs, ap (λ (i : ℕ). refused i vs) (eqb-true m (suc n) e))

module _ (release : ℕ) (x : Addition) where
  abbrev answer_to : List ℕ → Told
  answer_to s = (row_answer release (addition_columns x) s room).outcome

  -- the test's parts, from the last
  abbrev part₄ : Bool
  part₄ = eqb (told_number (answer_to (x.row ++ x.added))) 8

  abbrev part₃ : Bool
  part₃ = is_accepted (answer_to x.row) && part₄

  abbrev part₂ : Bool
  part₂ = leb (length (x.row ++ x.added)) input_limit && part₃

  abbrev part₁ : Bool
  part₁ = leb 2 (length x.row) && part₂

  abbrev part₀ : Bool
  part₀ = all_carry_own_end x.behind && part₁

  abbrev ends : Bool
  ends = not (keeps_acceptance x.left_out) && part₀

  all_parts : ends ≡ true → NotKept release x
  all_parts e =
      let p = split (not (keeps_acceptance x.left_out)) part₀ e in
      let p₀ = split (all_carry_own_end x.behind) part₁ p.rest in
      let p₁ = split (leb 2 (length x.row)) part₂ p₀.rest in
      let p₂ = split (leb (length (x.row ++ x.added)) input_limit) part₃ p₁.rest in
      let p₃ = split (is_accepted (answer_to x.row)) part₄ p₂.rest in
      let r = is_refused 7 (answer_to (x.row ++ x.added)) p₃.rest in
      let w = (tied release).from_8 (addition_columns x) (x.row ++ x.added) room r.0 r.1 in
      record {
        excepted = not-true (keeps_acceptance x.left_out) p.first;
        carry = p₀.first;
        two = leb-true 2 (length x.row) p₁.first;
        limit = leb-true (length (x.row ++ x.added)) input_limit p₂.first;
        accepts = is_accepted_lem (answer_to x.row) p₃.first;
        is_short = (w.1, w.2, (tied release).short_8 (addition_columns x) (x.row ++ x.added) room w.0 w.1 w.2 w.3);
      }

abbrev all_of : ℕ → List Addition → Bool
all_of release [] = true
all_of release (x ∷ xs) = ends release x && all_of release xs

from_test : (release : ℕ) (xs : List Addition) → all_of release xs ≡ true → NoneKept release xs
from_test release [] e = tt
from_test release (x ∷ xs) e = (all_parts release x (and_parts (ends release x) (all_of release xs) e).0, from_test release xs (and_parts (ends release x) (all_of release xs) e).1)

computed : (all_of 2 additions && all_of 3 additions) ≡ true
unfolding additions keeps_acceptance all_carry_own_end carries_own_end row_answer answer_of row_decision body_decision walk_decision walk_body walk skip_of column_need cell_of cons_cell cell_short need lob_need is_reference says_header unsigned any_dec_float column_list filled blank_value row_values row_texts cell_value cell_item item_in start_of value_of item_text varying_item header_item lob_item lob_empty lob_reference all_zero locator_text hex_text
computed = refl

pub additions_break : NoneKept 2 additions × NoneKept 3 additions
additions_break = (from_test 2 additions (and_parts (all_of 2 additions) (all_of 3 additions) computed).0, from_test 3 additions (and_parts (all_of 2 additions) (all_of 3 additions) computed).1)

-- ---- every column that is left out

-- a column's need, by its indicator and its extent
takes : (c : ColumnDescriptor) (b : Bool) (e : Extent) → c.nullable ≡ b → extent_of c ≡ e → (s : List ℕ) → column_need c s ≡ cell_need b e s
unfolding column_need
takes c b e p q s = ap (λ (t : Bool). cell_need t (extent_of c) s) p ∙ ap (λ (x : Extent). cell_need b x s) q

lacks_first : (start : ℕ) (c : ColumnDescriptor) (cs : List ColumnDescriptor) (at : ℕ) (s : List ℕ) → length s < column_need c s → is_done (walk start (c ∷ cs) at s) ≡ false
lacks_first start c cs at s h = false_from_ne_true (is_done (walk start (c ∷ cs) at s)) (λ d. omega (arith, h, walk_first start c cs at s d))

-- lists of few bytes
abbrev are_bytes : List ℕ → Bool
are_bytes [] = true
are_bytes (b ∷ s) = ltb b 256 && are_bytes s

are_bytes_lem : (s : List ℕ) → are_bytes s ≡ true → AreBytes s
are_bytes_lem [] e i = omega arith
are_bytes_lem (b ∷ s) e zero = ltb-true b 256 (and_parts (ltb b 256) (are_bytes s) e).0
are_bytes_lem (b ∷ s) e (suc i) = are_bytes_lem s (and_parts (ltb b 256) (are_bytes s) e).1 i

-- alone, behind the two bytes that are skipped: it takes all of r, and of r with u behind it more than that
alone_breaks : (c : ColumnDescriptor) (r u : List ℕ) → are_bytes r ≡ true → are_bytes u ≡ true → column_need c r ≡ length r → length (r ++ u) < column_need c (r ++ u) → Grows c
unfolding all_carry_own_end walk
alone_breaks c r u p q e l =
    let s : List ℕ = 0xFF ∷ 0 ∷ r in
    let w = walk_row_at (c ∷ []) s 2 (skip_two s (omega arith) refl) in
    let v = walk_row_at (c ∷ []) (s ++ u) 2 (skip_two (s ++ u) (omega arith) refl) in
    let f = step_finished 2 c [] 2 r (length r) (2 + length r) e (omega arith) refl refl in (
      [],
      refl,
      s,
      u,
      are_bytes_lem s p,
      are_bytes_lem u q,
      omega arith,
      2 + length r,
      done_walk (walk_row (c ∷ []) s) (2 + length r) (ap is_done w ∙ f.0) (ap used_of w ∙ f.1),
      short_walk (walk_row (c ∷ []) (s ++ u)) (ap is_done v ∙ lacks_first 2 c [] 2 (r ++ u) l),
    )

header0_breaks : (c : ColumnDescriptor) → extent_of c ≡ Header 0 → (b : Bool) → c.nullable ≡ b → Grows c
unfolding need nullable_need says_header unsigned
header0_breaks c q true p = alone_breaks c (0 ∷ []) (0xFF ∷ 0xFF ∷ []) refl refl (takes c true (Header 0) p q (0 ∷ [])) (omega (arith, takes c true (Header 0) p q (0 ∷ 0xFF ∷ 0xFF ∷ [])))
header0_breaks c q false p = alone_breaks c [] (0xFF ∷ 0xFF ∷ []) refl refl (takes c false (Header 0) p q []) (omega (arith, takes c false (Header 0) p q (0xFF ∷ 0xFF ∷ [])))

header1_breaks : (c : ColumnDescriptor) → extent_of c ≡ Header 1 → (b : Bool) → c.nullable ≡ b → Grows c
unfolding need nullable_need says_header unsigned
header1_breaks c q true p = alone_breaks c (0 ∷ 0x80 ∷ []) (1 ∷ []) refl refl (takes c true (Header 1) p q (0 ∷ 0x80 ∷ [])) (omega (arith, takes c true (Header 1) p q (0 ∷ 0x80 ∷ 1 ∷ [])))
header1_breaks c q false p = alone_breaks c (0x80 ∷ []) (1 ∷ []) refl refl (takes c false (Header 1) p q (0x80 ∷ [])) (omega (arith, takes c false (Header 1) p q (0x80 ∷ 1 ∷ [])))

-- with a SmallInt behind it: of the row it takes four bytes, and of three more nine
module _ (c : ColumnDescriptor) (q : extent_of c ≡ Locator) where
  abbrev cs : List ColumnDescriptor
  cs = c ∷ small_int_column ∷ []

  locator_breaks : (b : Bool) → c.nullable ≡ b → Grows c
  unfolding all_carry_own_end carries_own_end walk_body walk skip_of column_need cons_cell cell_of cell_short need nullable_need lob_need is_reference
  locator_breaks true p =
      let s : List ℕ = 0 ∷ 2 ∷ 0 ∷ 0 ∷ 0 ∷ 0 ∷ 1 ∷ [] in
      let u : List ℕ = 0 ∷ 0 ∷ 0 ∷ [] in
      let f = step_finished 0 c (small_int_column ∷ []) 0 s 5 7 (takes c true Locator p q s) (omega arith) refl refl in
      let v = walk_step 0 c (small_int_column ∷ []) 0 (s ++ u) 10 (takes c true Locator p q (s ++ u)) (omega arith) in
      (small_int_column ∷ [], refl, s, u, are_bytes_lem s refl, are_bytes_lem u refl, omega arith, 7, done_walk (walk_row cs s) 7 f.0 f.1, short_walk (walk_row cs (s ++ u)) (ap is_done v))
  locator_breaks false p =
      let s : List ℕ = 2 ∷ 0 ∷ 0 ∷ 0 ∷ 0 ∷ 1 ∷ [] in
      let u : List ℕ = 0 ∷ 0 ∷ 0 ∷ [] in
      let f = step_finished 0 c (small_int_column ∷ []) 0 s 4 6 (takes c false Locator p q s) (omega arith) refl refl in
      let v = walk_step 0 c (small_int_column ∷ []) 0 (s ++ u) 9 (takes c false Locator p q (s ++ u)) (omega arith) in
      (small_int_column ∷ [], refl, s, u, are_bytes_lem s refl, are_bytes_lem u refl, omega arith, 6, done_walk (walk_row cs s) 6 f.0 f.1, short_walk (walk_row cs (s ++ u)) (ap is_done v))

locator_is : (e : Extent) → is_locator e ≡ true → e ≡ Locator
locator_is (Fixed n) t = absurd (false≢true t)
locator_is (Counted w) t = absurd (false≢true t)
locator_is (Header n) t = absurd (false≢true t)
locator_is Inline t = absurd (false≢true t)
locator_is Locator t = refl
locator_is (Materialized n) t = absurd (false≢true t)

header_is : (e : Extent) → is_short_header e ≡ true → (e ≡ Header 0) ⊎ (e ≡ Header 1)
header_is (Fixed n) t = absurd (false≢true t)
header_is (Counted w) t = absurd (false≢true t)
header_is (Header zero) t = inl refl
header_is (Header (suc zero)) t = inr refl
header_is (Header (suc (suc n))) t = absurd (omega (arith, leb-true (suc (suc n)) 1 t))
header_is Inline t = absurd (false≢true t)
header_is Locator t = absurd (false≢true t)
header_is (Materialized n) t = absurd (false≢true t)

pub left_out_breaks : LeftOut
unfolding keeps_acceptance
left_out_breaks c t =
    let x = column_exceptions c in
    let lob = is_lob_of_length0 c.db2_type c in
    let tiny = is_tiny_header c.db2_type in
    ⊎_elim
    (λ l. locator_breaks c (locator_is (extent_of c) (sym x.1 ∙ l)) c.nullable refl)
    (λ h. ⊎_elim (λ q. header0_breaks c q c.nullable refl) (λ q. header1_breaks c q c.nullable refl) (header_is (extent_of c) (sym x.2 ∙ h)))
    (or_cases lob tiny (not-false (lob || tiny) t))
