-- What holds of every answer (specs/Accepted.antt): it has all places, and the text buffer its length. What holds of every accepted one: every place fits, and every
-- value is of a sort that its column allows. Assumes nothing.
use Prim.Native.Nat.{ℕ, zero, suc, ◌+◌, ◌-◌, ◌≤◌, ◌<◌}
use mathlib.Core.Path.{◌≡◌, refl, sym, ap, ◌∙◌, subst}
use mathlib.Core.Bool.{Bool, true, false, cond, true≢false}
use mathlib.Core.List.{List, [], ◌∷◌, ◌++◌}
use mathlib.Core.Logic.{inl, inr, ⊎_elim}
use mathlib.Core.Option.{Option, none, some}
use native.Mathlib.Omega.{arith}
use native.Mathlib.Nat.{le_of_suc-le-suc}
use lib.ListN.{length, get_or, take, drop, replicate, length-append, length-drop, length-take, length-replicate}
use lib.Dec.{leb, eqb}
use borrow.Author.Tests.{ltb-false}
use lib.Ieee.{binary32, binary64, nan_bits, of_bits}
use Rattle.std.proofs.lemmas.Bool.{or_parts}
use Rattle.buffer.specs.Buffer.{overwritten}
use Rattle.types.specs.declared.Db2Type.{Db2Type}
use Rattle.types.specs.declared.Db2Type.TheVariants as type
use Rattle.types.specs.declared.Place.{Place}
use Rattle.types.specs.declared.ColumnDescriptor.{ColumnDescriptor}
use Rattle.types.specs.declared.Columns.{Columns}
use Rattle.types.specs.declared.ValuePlace.{ValuePlace}
use Rattle.types.specs.Names.{is_dec_float}
use Rattle.types.specs.Places.{max_columns, filled, blank_column, blank_value}
use Rattle.types.specs.Held.{Held, bits, in_row, in_text, held}
use Rattle.numbers.specs.Number.{Number, number_value, real_of, double_of}
use Rattle.rules.specs.declared.Extent.{Extent}
use Rattle.rules.specs.Extent.{extent_of}
use Rattle.rules.specs.Meaning.{ByteSort, TextSort, Item, nothing, numeric, boolean, part, text, Conversions, item_in}
use Rattle.rules.specs.Walk.{column_need, Cell, absent, present, cell_of, Walk, done, short, cons_cell, cell_short, walk, walk_body, walk_row, skip_of}
use Rattle.rules.specs.Row.{Decision, refuse, accept, covered, part_value, text_value, value_of, item_text, cell_item, cell_value, row_values, row_texts, any_dec_float, row_decision, answer_of, text_after, answer_with, text_with, refused_row}
use Rattle.refusal.specs.Refusal.{accepted}
use Rattle.conversion.specs.Conversion.{is_release}
use Rattle.rules.specs.Conversions.{conversions_of, row_answer, row_text}
use Rattle.rules.specs.Sorts.{Sort, sort_of, sorts_of, Among, AllowsSort, Allows}
use Rattle.rules.specs.Accepted.{Fits, AllPlaces, SameLength, UsedFits, PlacesFit, SortsAllowed}
use Rattle.rules.proofs.Walks.{is_done, used_of, pieces_of, walk_step, walk_first, walk_rest}
use Rattle.rules.proofs.Rows.{row_used}
use Rattle.rules.proofs.Items.{part_sort, text_sort, Item_of, Nothing, Numbers, item_of}
use Rattle.rules.proofs.Answers.{Within, row_placed, places_within}
use Rattle.rules.proofs.Releases.{at_release}
use Rattle.rules.proofs.Demand3.{refused_not, facts}

-- ---- all places, and the buffer's length

cons_count : (p : Cell) (w : Walk) (n : ℕ) → length (pieces_of w) ≤ n → length (pieces_of (cons_cell p w)) ≤ suc n
unfolding cons_cell
cons_count p (done ps k) n h = omega arith
cons_count p (short e a) n h = omega arith

short_count : (t : Bool) (e : Extent) (offset : ℕ) (s : List ℕ) → length (pieces_of (cell_short t e offset s)) ≡ 0
unfolding cell_short
short_count true e offset [] = refl
short_count true e offset (b ∷ s) = refl
short_count false e offset s = refl

cond_count : (t : Bool) (x y : Walk) (n : ℕ) → length (pieces_of x) ≤ n → length (pieces_of y) ≤ n → length (pieces_of (cond t x y)) ≤ n
cond_count true x y n h k = h
cond_count false x y n h k = k

walk_count : (start : ℕ) (cs : List ColumnDescriptor) (at : ℕ) (s : List ℕ) → length (pieces_of (walk start cs at s)) ≤ length cs
unfolding walk
walk_count start [] at s = omega arith
walk_count start (c ∷ cs) at s =
    let k = column_need c s in
    let p = cell_of c.nullable c at (take k s) in
    let rest = walk start cs (at + k) (drop k s) in
    cond_count (leb k (length s)) (cons_cell p rest) (cell_short c.nullable (extent_of c) (at - start) s) (suc (length cs))
    (cons_count p rest (length cs) (walk_count start cs (at + k) (drop k s)))
    (omega (arith, short_count c.nullable (extent_of c) (at - start) s))

values_count : (L : Conversions) (ps : List Cell) (next : ℕ) → length (row_values L ps next) ≡ length ps
unfolding row_values
values_count L [] next = refl
values_count L (p ∷ ps) next = ap suc (values_count L ps (next + length (item_text (cell_item L p))))

filled_count : (vs : List ValuePlace) → length vs ≤ max_columns → length (filled blank_value vs) ≡ max_columns
unfolding filled
filled_count vs h =
    let k = max_columns - length vs in
    omega (arith, length-append vs (replicate k blank_value), length-replicate k blank_value)

module _ (L : Conversions) (columns : Columns) (s d : List ℕ) where
  -- what an acceptance shows
  taken : (ps : List Cell) (n : ℕ) → row_decision L columns s d ≡ accept ps n → (length ps ≤ max_columns) × (length (row_texts L ps) ≤ length d)
  unfolding answer_of walk_body
  taken ps n e =
      let f = facts L columns s d (ap (λ (x : Decision). (answer_of L x).outcome) e) in
      let cs = covered columns in
      let same : ps ≡ pieces_of (walk_row cs s) = let decided = f.decided in cc in
      let few = walk_count (skip_of s) cs (skip_of s) (drop (skip_of s) s) in
      rw same (omega (arith, few, length-take columns.count columns.columns, ltb-false max_columns columns.count f.few), f.room)

  places_count : (x : Decision) → row_decision L columns s d ≡ x → length (answer_of L x).places ≡ max_columns
  unfolding answer_of
  places_count (refuse n vs) e = filled_count [] (omega arith)
  places_count (accept ps n) e = filled_count (row_values L ps 0) (omega (arith, values_count L ps 0, (taken ps n e).0))

  text_length_lem : (x : Decision) → row_decision L columns s d ≡ x → length (text_after L x d) ≡ length d
  unfolding text_after
  text_length_lem (refuse n vs) e = refl
  text_length_lem (accept ps n) e =
      let ts = row_texts L ps in
      omega (arith, length-append ts (drop (length ts) d), length-drop (length ts) d, (taken ps n e).1)

-- ---- every place fits

within_fits : (v : Held) (n m : ℕ) (s d : List ℕ) → Within n m v → n ≤ length s → m ≤ length d → Fits v s d
within_fits (bits b) n m s d h k l = tt
within_fits (in_row p) n m s d h k l = omega arith
within_fits (in_text p) n m s d h k l = omega arith

pub places_fit_with : (L : Conversions) → PlacesFit (answer_with L) (text_with L)
unfolding answer_of text_after
places_fit_with L columns s d e i =
    let f = facts L columns s d e in
    let w = walk_row (covered columns) s in
    let ts = row_texts L (pieces_of w) in
    rw f.decided
    (within_fits (held (get_or (filled blank_value (row_values L (pieces_of w) 0)) i blank_value).value) (used_of w) (length ts) s (overwritten ts d)
    (places_within L (used_of w) (pieces_of w) (row_placed (covered columns) s f.over) i)
    (row_used (covered columns) s f.over).1
    (omega (arith, length-append ts (drop (length ts) d))))

-- ---- every value is of a sort that its column allows

part_sort_lem : (k : ByteSort) (p : Place) → sort_of (part_value k p) ≡ some (part_sort k)
part_sort_lem ByteSort.binary p = refl
part_sort_lem ByteSort.blob p = refl

text_sort_lem : (k : TextSort) (p : Place) → sort_of (text_value k p) ≡ some (text_sort k)
text_sort_lem TextSort.decimal p = refl
text_sort_lem TextSort.char p = refl
text_sort_lem TextSort.var_char p = refl
text_sort_lem TextSort.clob p = refl
text_sort_lem TextSort.row_id p = refl
text_sort_lem TextSort.date p = refl
text_sort_lem TextSort.time p = refl
text_sort_lem TextSort.timestamp p = refl
text_sort_lem TextSort.xml p = refl

-- a sort among those that a type allows, and not Null
abbrev Known : List Sort → Option Sort → Type 0
Known ks none = ⊥
Known ks (some k) = Among ks k

abbrev NumberSort : Db2Type → Number → Type 0
NumberSort t x = Known (sorts_of t) (sort_of (number_value x))

known_allowed : (c : ColumnDescriptor) (o : Option Sort) → Known (sorts_of c.db2_type) o → AllowsSort c o
known_allowed c none h = absurd h
known_allowed c (some k) h = h

real_sort : (n : ℕ) → NumberSort type.Real (real_of n)
unfolding real_of
real_sort n = go (nan_bits binary32 n)
  where
    go : (b : Bool) → NumberSort type.Real (cond b (Number.real_nan n) (Number.real (of_bits binary32 n)))
    go true = inl refl
    go false = inl refl

double_sort : (n : ℕ) → NumberSort type.Double (double_of n)
unfolding double_of
double_sort n = go (nan_bits binary64 n)
  where
    go : (b : Bool) → NumberSort type.Double (cond b (Number.double_nan n) (Number.double (of_bits binary64 n)))
    go true = inl refl
    go false = inl refl

number_sorts : (release : ℕ) → Numbers (conversions_of release) NumberSort
number_sorts release =
    record { of_small_int = λ c s. inl refl; of_integer = λ c s. inl refl; of_big_int = λ c s. inl refl; of_real = λ c s. real_sort _; of_double = λ c s. double_sort _ }

-- for every choice of conversions whose numbers are of their type's sort
module _ (L : Conversions) (ns : Numbers L NumberSort) where
  value_allowed : (c : ColumnDescriptor) → is_dec_float c ≡ false → (n : ℕ) (x : Item)
      → Item_of (sorts_of c.db2_type) n (NumberSort c.db2_type) (Nothing c.db2_type) x → (at next : ℕ) → Allows c (value_of x at next)
  unfolding value_of
  value_allowed c plain n nothing h at next = ⊎_elim inr (λ e. absurd (true≢false (sym e ∙ plain))) h
  value_allowed c plain n (numeric x) h at next = known_allowed c (sort_of (number_value x)) h
  value_allowed c plain n (boolean b) h at next = h
  value_allowed c plain n (part k from l) h at next = rw part_sort_lem h.0
  value_allowed c plain n (text k t) h at next = rw text_sort_lem h

  present_allowed : (c : ColumnDescriptor) → is_dec_float c ≡ false → (at : ℕ) (s : List ℕ) (next : ℕ)
      → Allows c (cell_value L (present c at s) next).value
  unfolding cell_value item_in
  present_allowed c plain at s next = value_allowed c plain (length s) (item_in L c s) (item_of L NumberSort ns c.db2_type c s) at next

  absent_allowed : (c : ColumnDescriptor) → c.nullable ≡ true → (next : ℕ) → Allows c (cell_value L absent next).value
  unfolding cell_value blank_value
  absent_allowed c e next = inl e

  piece_allowed : (c : ColumnDescriptor) → is_dec_float c ≡ false → (t : Bool) → c.nullable ≡ t → (at : ℕ) (s : List ℕ) (next : ℕ)
      → Allows c (cell_value L (cell_of t c at s) next).value
  unfolding cell_of
  piece_allowed c plain true e at [] next = absent_allowed c e next
  piece_allowed c plain true e at (b ∷ s) next = go (eqb b 255)
    where
      go : (t : Bool) → Allows c (cell_value L (cond t absent (present c (at + 1) s)) next).value
      go true = absent_allowed c e next
      go false = present_allowed c plain (at + 1) s next
  piece_allowed c plain false e at s next = present_allowed c plain at s next

  abbrev AllAllowed : List ColumnDescriptor → List ValuePlace → Type 0
  AllAllowed [] vs = Unit {0}
  AllAllowed (c ∷ cs) [] = ⊥
  AllAllowed (c ∷ cs) (v ∷ vs) = Allows c v.value × AllAllowed cs vs

  cons_allowed : (c : ColumnDescriptor) (cs : List ColumnDescriptor) (p : Cell) (w : Walk) (next : ℕ) → is_done w ≡ true → Allows c (cell_value L p next).value
      → ((k : ℕ) → AllAllowed cs (row_values L (pieces_of w) k)) → AllAllowed (c ∷ cs) (row_values L (pieces_of (cons_cell p w)) next)
  unfolding cons_cell row_values
  cons_allowed c cs p (done ps n) next o h hs = (h, hs (next + length (item_text (cell_item L p))))
  cons_allowed c cs p (short e a) next o h hs = absurd (true≢false (sym o))

  walk_allowed : (start : ℕ) (cs : List ColumnDescriptor) → any_dec_float cs ≡ false → (at : ℕ) (s : List ℕ) → is_done (walk start cs at s) ≡ true
      → (next : ℕ) → AllAllowed cs (row_values L (pieces_of (walk start cs at s)) next)
  unfolding walk any_dec_float
  walk_allowed start [] plain at s o next = tt
  walk_allowed start (c ∷ cs) plain at s o next =
      let k = column_need c s in
      let h = walk_first start c cs at s o in
      let r = walk_rest start c cs at s o in
      let this = (or_parts (is_dec_float c) (any_dec_float cs) plain).0 in
      let others = (or_parts (is_dec_float c) (any_dec_float cs) plain).1 in
      subst (λ (w : Walk). AllAllowed (c ∷ cs) (row_values L (pieces_of w) next)) (sym (walk_step start c cs at s k refl h))
      (cons_allowed c cs (cell_of c.nullable c at (take k s)) (walk start cs (at + k) (drop k s)) next r
      (piece_allowed c this c.nullable refl at (take k s) next)
      (walk_allowed start cs others (at + k) (drop k s) r))

  at_allowed : (cs : List ColumnDescriptor) (vs ws : List ValuePlace) (i : ℕ) → AllAllowed cs vs → i < length cs
      → Allows (get_or cs i blank_column) (get_or (vs ++ ws) i blank_value).value
  at_allowed [] vs ws i h l = absurd (omega arith)
  at_allowed (c ∷ cs) [] ws i h l = absurd h
  at_allowed (c ∷ cs) (v ∷ vs) ws zero h l = h.0
  at_allowed (c ∷ cs) (v ∷ vs) ws (suc i) h l = at_allowed cs vs ws i h.1 (le_of_suc-le-suc l)

  pub sorts_allowed_with : SortsAllowed (answer_with L) (text_with L)
  unfolding answer_of filled walk_body
  sorts_allowed_with columns s d e i l =
      let f = facts L columns s d e in
      let cs = covered columns in
      let vs = row_values L (pieces_of (walk_row cs s)) 0 in
      rw f.decided
      (at_allowed cs vs (replicate (max_columns - length vs) blank_value) i
      (walk_allowed (skip_of s) cs f.plain (skip_of s) (drop (skip_of s) s) f.over 0)
      l)

-- ---- the bytes used

used_fit : (L : Conversions) (columns : Columns) (s d : List ℕ) (x : Decision) → row_decision L columns s d ≡ x → (answer_of L x).used ≤ length s
unfolding answer_of
used_fit L columns s d (refuse n vs) e = omega arith
used_fit L columns s d (accept ps n) e =
    let f = facts L columns s d (ap (λ (x : Decision). (answer_of L x).outcome) e) in
    let same : n ≡ used_of (walk_row (covered columns) s) = let decided = f.decided in cc in
    let b = row_used (covered columns) s f.over in
    omega (arith, same, b.1)

-- of the row call
module _ (release : ℕ) where
  abbrev L : Conversions
  L = conversions_of release

  pub used_fits : UsedFits (row_answer release) (row_text release)
  used_fits = at_release release UsedFits (λ columns s d. used_fit L columns s d (row_decision L columns s d) refl) (λ columns s d. omega arith)

  pub all_places : AllPlaces (row_answer release) (row_text release)
  all_places = at_release release AllPlaces (λ columns s d. places_count L columns s d (row_decision L columns s d) refl) (λ columns s d. filled_count [] (omega arith))

  pub same_length_lem : SameLength (row_answer release) (row_text release)
  same_length_lem = at_release release SameLength (λ columns s d. text_length_lem L columns s d (row_decision L columns s d) refl) (λ columns s d. refl)

  pub places_fit : PlacesFit (row_answer release) (row_text release)
  places_fit = at_release release PlacesFit (places_fit_with L) (λ columns s d e. absurd (refused_not 22 [] e))

  pub sorts_allowed : SortsAllowed (row_answer release) (row_text release)
  sorts_allowed = at_release release SortsAllowed (sorts_allowed_with L (number_sorts release)) (λ columns s d e. absurd (refused_not 22 [] e))

  -- an accepted answer is that at the release's conversions
  pub at_accepted : (columns : Columns) (s d : List ℕ) → (row_answer release columns s d).outcome ≡ accepted → answer_with L columns s d ≡ row_answer release columns s d
  unfolding row_answer
  at_accepted columns s d = go (is_release release)
    where
      go : (x : Bool) → (cond x (answer_with L columns s d) (refused_row 22 [])).outcome ≡ accepted → answer_with L columns s d ≡ cond x (answer_with L columns s d) (refused_row 22 [])
      go true e = refl
      go false e = absurd (refused_not 22 [] e)
