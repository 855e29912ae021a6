-- What an accepted row's values name lies in the bytes that the row used, and in the texts written: so it is the same wherever those are the same.
-- Assumes nothing.
use Prim.Native.Nat.{ℕ, zero, suc, ◌+◌, ◌-◌, ◌≤◌}
use mathlib.Core.Path.{◌≡◌, refl, sym, ap, ◌∙◌, subst}
use mathlib.Core.Bool.{Bool, true, false, cond}
use mathlib.Core.List.{List, [], ◌∷◌, ◌++◌}
use native.Mathlib.Omega.{arith}
use native.Mathlib.Nat.{zero-add}
use lib.ListN.{length, get_or, take, drop, replicate, length-append, length-take}
use lib.Seq.{take-take, length-take-le}
use lib.Dec.{eqb}
use borrow.Author.Tests.{eqb-true, le-leb}
use Rattle.types.specs.declared.Place.{Place}
use Rattle.types.specs.declared.ColumnDescriptor.{ColumnDescriptor}
use Rattle.types.specs.declared.Db2Value.{Db2Value}
use Rattle.types.specs.declared.ValuePlace.{ValuePlace}
use Rattle.types.specs.Places.{max_columns, filled, blank_value}
use Rattle.types.specs.Held.{Held, bits, in_row, in_text, held}
use Rattle.numbers.specs.Number.{Number, number_value}
use Rattle.rules.specs.Meaning.{ByteSort, TextSort, Item, nothing, numeric, boolean, part, text, Conversions, item_in}
use Rattle.rules.specs.Walk.{column_need, Cell, absent, present, cell_of, Walk, done, short, cons_cell, walk, walk_body, walk_row, skip_of}
use Rattle.rules.specs.Value.{bytes_at, held_bytes, value_bytes, held_text, texts_together}
use Rattle.rules.specs.Row.{part_value, text_value, start_of, value_of, item_text, cell_item, cell_value, row_values, row_texts}
use Rattle.rules.specs.Sorts.{sorts_of}
use Rattle.rules.proofs.Walks.{is_done, used_of, pieces_of, walk_step, walk_first, walk_rest, walk_rest_used, walk_used, drop_take}
use Rattle.rules.proofs.Items.{Item_of, Nothing, Numbers, item_of}

-- a piece lies in the first n bytes of the input
abbrev pub Placed : ℕ → Cell → Type 0
Placed n absent = Unit {0}
Placed n (present c at s) = at + length s ≤ n

abbrev pub AllPlaced : ℕ → List Cell → Type 0
AllPlaced n [] = Unit {0}
AllPlaced n (p ∷ ps) = Placed n p × AllPlaced n ps

piece_placed : (n : ℕ) (t : Bool) (c : ColumnDescriptor) (at : ℕ) (s : List ℕ) → at + length s ≤ n → Placed n (cell_of t c at s)
unfolding cell_of
piece_placed n true c at [] h = tt
piece_placed n true c at (b ∷ s) h = go (eqb b 255)
  where
    go : (t : Bool) → Placed n (cond t absent (present c (at + 1) s))
    go true = tt
    go false = omega arith
piece_placed n false c at s h = h

cons_placed : (n : ℕ) (p : Cell) (w : Walk) → Placed n p → AllPlaced n (pieces_of w) → AllPlaced n (pieces_of (cons_cell p w))
unfolding cons_cell
cons_placed n p (done ps k) h hs = (h, hs)
cons_placed n p (short e a) h hs = tt

walk_placed : (n start : ℕ) (cs : List ColumnDescriptor) (at : ℕ) (s : List ℕ) → is_done (walk start cs at s) ≡ true → used_of (walk start cs at s) ≡ n
    → AllPlaced n (pieces_of (walk start cs at s))
unfolding walk
walk_placed n start [] at s d e = tt
walk_placed n start (c ∷ cs) at s d e =
    let k = column_need c s in
    let h = walk_first start c cs at s d in
    let r = walk_rest start c cs at s d in
    let u = walk_rest_used start c cs at s d in
    let low = walk_used start cs (at + k) (drop k s) r in
    let ih = walk_placed n start cs (at + k) (drop k s) r (sym u ∙ e) in
    subst (λ (w : Walk). AllPlaced n (pieces_of w)) (sym (walk_step start c cs at s k refl h))
    (cons_placed n (cell_of c.nullable c at (take k s)) (walk start cs (at + k) (drop k s))
    (piece_placed n c.nullable c at (take k s) (omega (arith, length-take-le k s h)))
    ih)

pub row_placed : (cs : List ColumnDescriptor) (s : List ℕ) → is_done (walk_row cs s) ≡ true → AllPlaced (used_of (walk_row cs s)) (pieces_of (walk_row cs s))
unfolding walk_body
row_placed cs s d = walk_placed (used_of (walk_row cs s)) (skip_of s) cs (skip_of s) (drop (skip_of s) s) d refl

-- what each sort of value holds
pub number_held : (x : Number) → (n : ℕ) × (held (number_value x) ≡ bits n)
number_held (Number.small_int z) = (_, refl)
number_held (Number.integer z) = (_, refl)
number_held (Number.big_int z) = (_, refl)
number_held (Number.real x) = (_, refl)
number_held (Number.real_nan n) = (_, refl)
number_held (Number.double x) = (_, refl)
number_held (Number.double_nan n) = (_, refl)

pub part_held : (k : ByteSort) (p : Place) → held (part_value k p) ≡ in_row p
part_held ByteSort.binary p = refl
part_held ByteSort.blob p = refl

pub text_held_lem : (k : TextSort) (p : Place) → held (text_value k p) ≡ in_text p
text_held_lem TextSort.decimal p = refl
text_held_lem TextSort.char p = refl
text_held_lem TextSort.var_char p = refl
text_held_lem TextSort.clob p = refl
text_held_lem TextSort.row_id p = refl
text_held_lem TextSort.date p = refl
text_held_lem TextSort.time p = refl
text_held_lem TextSort.timestamp p = refl
text_held_lem TextSort.xml p = refl

-- a value's place ends within the first n bytes of the row, or the first m of the text buffer
abbrev pub Ends : ℕ → Place → Type 0
Ends n p = p.start + p.len ≤ n

abbrev pub Within : ℕ → ℕ → Held → Type 0
Within n m (bits b) = Unit {0}
Within n m (in_row p) = Ends n p
Within n m (in_text p) = Ends m p

abbrev pub AllWithin : ℕ → ℕ → List ValuePlace → Type 0
AllWithin n m [] = Unit {0}
AllWithin n m (v ∷ vs) = Within n m (held v.value) × AllWithin n m vs

-- an item's part lies in the value's n bytes
abbrev pub Inside : ℕ → Item → Type 0
Inside n nothing = Unit {0}
Inside n (numeric x) = Unit {0}
Inside n (boolean b) = Unit {0}
Inside n (part k from l) = l ≤ n - from
Inside n (text k t) = Unit {0}

start_ends : (l at n : ℕ) → at + l ≤ n → start_of l at + l ≤ n
unfolding start_of
start_ends l at n h = go (eqb l 0) refl
  where
    go : (t : Bool) → eqb l 0 ≡ t → cond t 0 at + l ≤ n
    go true e = omega (arith, eqb-true l 0 e)
    go false e = h

-- an empty part ends at its place, whatever that is
start_empty : (at n : ℕ) → start_of 0 at + 0 ≤ n
unfolding start_of
start_empty at n = omega arith

part_ends : (l from at size n : ℕ) → l ≤ size - from → at + size ≤ n → start_of l (at + from) + l ≤ n
part_ends zero from at size n i h = start_empty (at + from) n
part_ends (suc l) from at size n i h = start_ends (suc l) (at + from) n (omega arith)

value_within : (n m : ℕ) (x : Item) (at size next : ℕ) → Inside size x → at + size ≤ n → next + length (item_text x) ≤ m → Within n m (held (value_of x at next))
unfolding value_of item_text
value_within n m nothing at size next i h k = tt
value_within n m (numeric x) at size next i h k = rw (number_held x).1 tt
value_within n m (boolean b) at size next i h k = tt
value_within n m (part k from l) at size next i h j = rw part_held (part_ends l from at size n i h)
value_within n m (text k t) at size next i h j = rw text_held_lem (omega arith)

value_length : (x : Item) (at next : ℕ) → held_text (held (value_of x at next)) ≡ length (item_text x)
unfolding value_of item_text
value_length nothing at next = refl
value_length (numeric x) at next = rw (number_held x).1
value_length (boolean b) at next = refl
value_length (part k from l) at next = rw part_held
value_length (text k t) at next = rw text_held_lem

-- of numbers nothing is needed here
any_number : (L : Conversions) → Numbers L (λ t x. Unit {0})
any_number L = record { of_small_int = λ c s. tt; of_integer = λ c s. tt; of_big_int = λ c s. tt; of_real = λ c s. tt; of_double = λ c s. tt }

module _ (L : Conversions) where
  pub item_inside : (c : ColumnDescriptor) (s : List ℕ) → Inside (length s) (item_in L c s)
  unfolding item_in
  item_inside c s = go (item_in L c s) (item_of L (λ t x. Unit {0}) (any_number L) c.db2_type c s)
    where
      go : (x : Item) → Item_of (sorts_of c.db2_type) (length s) (λ y. Unit {0}) (Nothing c.db2_type) x → Inside (length s) x
      go nothing h = tt
      go (numeric x) h = tt
      go (boolean b) h = tt
      go (part k from l) h = h.1
      go (text k t) h = tt

  piece_within : (p : Cell) (n : ℕ) → Placed n p → (m next : ℕ) → next + length (item_text (cell_item L p)) ≤ m → Within n m (held (cell_value L p next).value)
  unfolding cell_item cell_value blank_value
  piece_within absent n h m next k = tt
  piece_within (present c at s) n h m next k = value_within n m (item_in L c s) at (length s) next (item_inside c s) h k

  piece_length : (p : Cell) (next : ℕ) → held_text (held (cell_value L p next).value) ≡ length (item_text (cell_item L p))
  unfolding cell_item cell_value blank_value item_text
  piece_length absent next = refl
  piece_length (present c at s) next = value_length (item_in L c s) at next

  values_within : (n m : ℕ) (ps : List Cell) (next : ℕ) → AllPlaced n ps → next + length (row_texts L ps) ≤ m → AllWithin n m (row_values L ps next)
  unfolding row_values row_texts
  values_within n m [] next h k = tt
  values_within n m (p ∷ ps) next h k =
      let e = length-append (item_text (cell_item L p)) (row_texts L ps) in
      (piece_within p n h.0 m next (omega arith), values_within n m ps (next + length (item_text (cell_item L p))) h.1 (omega arith))

  values_together : (ps : List Cell) (next : ℕ) → texts_together (row_values L ps next) ≡ length (row_texts L ps)
  unfolding row_values row_texts texts_together
  values_together [] next = refl
  values_together (p ∷ ps) next =
      omega (arith, length-append (item_text (cell_item L p)) (row_texts L ps), piece_length p next, values_together ps (next + length (item_text (cell_item L p))))

-- blank places name nothing
blanks_within : (n m k : ℕ) → AllWithin n m (replicate k blank_value)
unfolding blank_value
blanks_within n m zero = tt
blanks_within n m (suc k) = (tt, blanks_within n m k)

append_within : (n m : ℕ) (vs ws : List ValuePlace) → AllWithin n m vs → AllWithin n m ws → AllWithin n m (vs ++ ws)
append_within n m [] ws h k = k
append_within n m (v ∷ vs) ws h k = (h.0, append_within n m vs ws h.1 k)

at_within : (n m : ℕ) (vs : List ValuePlace) (i : ℕ) → AllWithin n m vs → Within n m (held (get_or vs i blank_value).value)
unfolding blank_value
at_within n m [] i h = tt
at_within n m (v ∷ vs) zero h = h.0
at_within n m (v ∷ vs) (suc i) h = at_within n m vs i h.1

-- every place of the answer to pieces that lie in the first n bytes
pub places_within : (L : Conversions) (n : ℕ) (ps : List Cell) → AllPlaced n ps
    → (i : ℕ) → Within n (length (row_texts L ps)) (held (get_or (filled blank_value (row_values L ps 0)) i blank_value).value)
unfolding filled
places_within L n ps h i =
    let m = length (row_texts L ps) in
    let vs = row_values L ps 0 in
    let k = max_columns - length vs in
    at_within n m (vs ++ replicate k blank_value) i
    (append_within n m vs (replicate k blank_value) (values_within L n m ps 0 h (omega arith)) (blanks_within n m k))

blanks_together : (k : ℕ) → texts_together (replicate k blank_value) ≡ 0
unfolding texts_together blank_value
blanks_together zero = refl
blanks_together (suc k) = zero-add (texts_together (replicate k blank_value)) ∙ blanks_together k

append_together : (vs ws : List ValuePlace) → texts_together (vs ++ ws) ≡ texts_together vs + texts_together ws
unfolding texts_together
append_together [] ws = sym (zero-add (texts_together ws))
append_together (v ∷ vs) ws = omega (arith, append_together vs ws)

-- the texts together, as the accepted answer shows them, are the texts written
pub filled_together : (L : Conversions) (ps : List Cell) → texts_together (filled blank_value (row_values L ps 0)) ≡ length (row_texts L ps)
unfolding filled
filled_together L ps =
    let vs = row_values L ps 0 in
    omega (arith, append_together vs (replicate (max_columns - length vs) blank_value), blanks_together (max_columns - length vs), values_together L ps 0)

-- a value's bytes depend on no more than it names
cut : (p : Place) (n : ℕ) (s : List ℕ) → Ends n p → n ≤ length s → bytes_at p s ≡ take p.len (drop p.start (take n s))
unfolding bytes_at
cut p n s h k =
    rw (le-leb (p.start + p.len) (length s) (omega arith), drop_take p.start n s)
    (sym (take-take p.len (n - p.start) (drop p.start s) (omega arith)))

-- a list that begins as another has at least as many elements
pub reach : (n : ℕ) (s t : List ℕ) → take n t ≡ take n s → n ≤ length s → n ≤ length t
reach n s t e k = omega (arith, ap length e, length-take n t, length-take-le n s k)

part_same : (p : Place) (n : ℕ) (s t : List ℕ) → Ends n p → take n t ≡ take n s → n ≤ length s → bytes_at p t ≡ bytes_at p s
part_same p n s t h e k =
    cut p n t h (reach n s t e k) ∙ ap (λ (l : List ℕ). take p.len (drop p.start l)) e ∙ sym (cut p n s h k)

held_same : (v : Held) (n m : ℕ) (s t x y : List ℕ) → Within n m v → take n t ≡ take n s → n ≤ length s → take m y ≡ take m x → m ≤ length x
    → held_bytes v t y ≡ held_bytes v s x
held_same (bits b) n m s t x y h e k f l = refl
held_same (in_row p) n m s t x y h e k f l = part_same p n s t h e k
held_same (in_text p) n m s t x y h e k f l = part_same p m x y h f l

pub value_same : (v : Db2Value) (n m : ℕ) (s t x y : List ℕ) → Within n m (held v) → take n t ≡ take n s → n ≤ length s → take m y ≡ take m x → m ≤ length x
    → value_bytes v t y ≡ value_bytes v s x
unfolding value_bytes
value_same v = held_same (held v)
