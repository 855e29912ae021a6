-- Each number of an accepted row of bytes is in the range of its variant, so that the row's words name its values. Assumes nothing.
use Prim.Native.Nat.{ℕ, zero, suc, ◌+◌, ◌-◌, ◌≤◌, ◌<◌, ◌^◌}
use mathlib.Core.Path.{◌≡◌, refl, sym, ◌∙◌}
use mathlib.Core.Bool.{Bool, true, false, cond, false≢true}
use mathlib.Core.List.{List, [], ◌∷◌}
use native.Mathlib.Omega.{arith}
use borrow.Author.Tests.{ltb-true, ltb-false, eqb-true}
use lib.Dec.{ltb, eqb}
use lib.IntN.{pos, negsuc}
use lib.ListN.{length, get_or, take, drop, length-take}
use lib.Ieee.{binary32, binary64, nan_bits, of_bits}
use lib.Ieee.Bits.{of_bits-fits, nan_bits_is}
use mir.Syntax.{Width, w16, w32, w64}
use mir.Val.{SFits, bits, hbits, sel, to_z}
use mir.ValLaws.{pow-bits}
use Rattle.types.specs.declared.Place.{Place}
use Rattle.types.specs.declared.ByteOrder.{ByteOrder}
use Rattle.types.specs.declared.ByteOrder.TheVariants.{BigEndian, LittleEndian}
use Rattle.types.specs.declared.Db2Type.{Db2Type}
use Rattle.types.specs.declared.Db2Type.TheVariants as type
use Rattle.types.specs.declared.ColumnDescriptor.{ColumnDescriptor}
use Rattle.types.specs.declared.ValuePlace.{ValuePlace}
use Rattle.types.specs.Names.{name_of}
use Rattle.types.specs.Places.{blank_value}
use Rattle.numbers.specs.Number.{Number, unsigned, number_value, real_of, double_of}
use Rattle.rules.specs.declared.Extent.TheVariants.{Fixed}
use Rattle.rules.specs.Extent.{need}
use Rattle.rules.specs.Meaning.{ByteSort, TextSort, Item, nothing, numeric, boolean, part, text, Conversions, item_in}
use Rattle.rules.specs.Walk.{nullable_need, cell_need, column_need, Cell, absent, present, cell_of, Walk, done, short, cons_cell, walk}
use Rattle.rules.specs.Sorts.{sorts_of}
use Rattle.rules.specs.Row.{part_value, text_value, item_text, value_of, cell_item, cell_value, row_values}
use Rattle.rules.specs.Conversions.{conversions_of}
use Rattle.rules.proofs.Items.{Item_of, Nothing, Numbers, item_of}
use Rattle.rules.proofs.Walks.{is_done, pieces_of, walk_step, walk_first}
use Rattle.unicode_standard.specs.Laws.{AreBytes}
use Rattle.unicode_standard.proofs.Bytes.{bytes_drop, bytes_take}
use Rattle.words.specs.Words.{type_named}
use Rattle.words.proofs.TypeWords.{Fitting, named}
use Rattle.words.proofs.Columns.{AllFit}
use Rattle.words.proofs.Values.{InRange}

-- ---- a number that was read

signed_range : (w : Width) (n : ℕ) → 0 < 2 ^ hbits w → SFits w (to_z w n)
signed_range w n h = go (ltb n (2 ^ hbits w)) refl
  where
    go : (b : Bool) → ltb n (2 ^ hbits w) ≡ b → SFits w (sel b (pos n) (negsuc (2 ^ bits w - suc n)))
    go true e = record { sfits = ltb-true n (2 ^ hbits w) e }
    go false e = let k = ltb-false n (2 ^ hbits w) e in let p = pow-bits w in record { sfits = omega arith }

real_range : (n : ℕ) → n < 2 ^ 32 → InRange (number_value (real_of n))
unfolding real_of
real_range n h = go (nan_bits binary32 n) refl
  where
    go : (b : Bool) → nan_bits binary32 n ≡ b → InRange (number_value (cond b (Number.real_nan n) (Number.real (of_bits binary32 n))))
    go true e = h
    go false e = (of_bits-fits binary32 n, sym (nan_bits_is binary32 n) ∙ e)

double_range : (n : ℕ) → InRange (number_value (double_of n))
unfolding double_of
double_range n = go (nan_bits binary64 n) refl
  where
    go : (b : Bool) → nan_bits binary64 n ≡ b → InRange (number_value (cond b (Number.double_nan n) (Number.double (of_bits binary64 n))))
    go true e = tt
    go false e = (of_bits-fits binary64 n, sym (nan_bits_is binary64 n) ∙ e)

-- four bytes, in either order
four : (order : ByteOrder) (s : List ℕ) → AreBytes s → length s ≤ 4 → unsigned order s < 2 ^ 32
unfolding unsigned
four BigEndian [] h k = omega arith
four BigEndian (a ∷ []) h k = omega (arith, h 0)
four BigEndian (a ∷ b ∷ []) h k = omega (arith, h 0, h 1)
four BigEndian (a ∷ b ∷ c ∷ []) h k = omega (arith, h 0, h 1, h 2)
four BigEndian (a ∷ b ∷ c ∷ d ∷ []) h k = omega (arith, h 0, h 1, h 2, h 3)
four BigEndian (a ∷ b ∷ c ∷ d ∷ e ∷ s) h k = absurd (omega arith)
four LittleEndian [] h k = omega arith
four LittleEndian (a ∷ []) h k = omega (arith, h 0)
four LittleEndian (a ∷ b ∷ []) h k = omega (arith, h 0, h 1)
four LittleEndian (a ∷ b ∷ c ∷ []) h k = omega (arith, h 0, h 1, h 2)
four LittleEndian (a ∷ b ∷ c ∷ d ∷ []) h k = omega (arith, h 0, h 1, h 2, h 3)
four LittleEndian (a ∷ b ∷ c ∷ d ∷ e ∷ s) h k = absurd (omega arith)

-- ---- an item, by its column's type

abbrev Ranged : Item → Type 0
Ranged nothing = Unit {0}
Ranged (numeric x) = InRange (number_value x)
Ranged (boolean b) = Unit {0}
Ranged (part k from l) = Unit {0}
Ranged (text k t) = Unit {0}

-- a number of a type, unless the type is Real, whose NaN needs four bytes for its bits to be 32
abbrev Unless : Bool → Number → Type 0
Unless true x = Unit {0}
Unless false x = InRange (number_value x)

abbrev is_real : Db2Type → Bool
is_real t = eqb (name_of t) 3

-- a walk that is done has one piece more than the walk of the rest
pub cons_all : (p : Cell) (w : Walk) → is_done (cons_cell p w) ≡ true → (is_done w ≡ true) × (pieces_of (cons_cell p w) ≡ p ∷ pieces_of w)
unfolding cons_cell
cons_all p (done ps n) h = (refl, refl)
cons_all p (short x y) h = absurd (false≢true h)

abbrev pub AllInRange : List ValuePlace → Type 0
AllInRange [] = Unit {0}
AllInRange (v ∷ vs) = InRange v.value × AllInRange vs

pub at_range : (vs : List ValuePlace) (k : ℕ) → AllInRange vs → InRange (get_or vs k blank_value).value
unfolding blank_value
at_range [] k h = tt
at_range (v ∷ vs) zero h = h.0
at_range (v ∷ vs) (suc k) h = at_range vs k h.1

-- ---- at the conversions of any release

module _ (release : ℕ) where
  abbrev L : Conversions
  L = conversions_of release

  numbers : Numbers L (λ t x. Unless (is_real t) x)
  numbers =
      record {
        of_small_int = λ c s. signed_range w16 (unsigned c.byte_order s) (omega arith);
        of_integer = λ c s. signed_range w32 (unsigned c.byte_order s) (omega arith);
        of_big_int = λ c s. signed_range w64 (unsigned c.byte_order s) (omega arith);
        of_real = λ c s. tt;
        of_double = λ c s. double_range (unsigned c.byte_order s);
      }

  other_item : (c : ColumnDescriptor) (s : List ℕ) → is_real c.db2_type ≡ false → Ranged (item_in L c s)
  unfolding item_in
  other_item c s e = go (item_in L c s) (item_of L (λ t x. Unless (is_real t) x) numbers c.db2_type c s)
    where
      go : (x : Item) → Item_of (sorts_of c.db2_type) (length s) (λ y. Unless (is_real c.db2_type) y) (Nothing c.db2_type) x → Ranged x
      go nothing h = tt
      go (numeric x) h = rw e at h
      go (boolean b) h = tt
      go (part k from l) h = tt
      go (text k t) h = tt

  real_item : (c : ColumnDescriptor) → c.db2_type ≡ type.Real → (s : List ℕ) → AreBytes s → length s ≤ 4 → Ranged (item_in L c s)
  unfolding item_in
  real_item c e s h k = rw e (real_range (unsigned c.byte_order s) (four c.byte_order s h k))

  is_real_lem : (t : Db2Type) → Fitting t → is_real t ≡ true → t ≡ type.Real
  unfolding type_named
  is_real_lem t f e = let k = eqb-true (name_of t) 3 e in sym (named t f).back ∙ rw k

  -- ---- a column's piece of the rest r

  abbrev RangedPiece : Cell → Type 0
  RangedPiece absent = Unit {0}
  RangedPiece (present c at s) = Ranged (item_in L c s)

  -- of n bytes behind the indicator
  cell_range : (c : ColumnDescriptor) (n : ℕ) → ((s : List ℕ) → AreBytes s → length s ≤ n → Ranged (item_in L c s))
      → (b : Bool) (at : ℕ) (s : List ℕ) → AreBytes s → length s ≤ cond b (suc n) n → RangedPiece (cell_of b c at s)
  unfolding cell_of
  cell_range c n f true at [] h k = tt
  cell_range c n f true at (x ∷ s) h k = go (eqb x 0xFF)
    where
      go : (b : Bool) → RangedPiece (cond b absent (present c (at + 1) s))
      go true = tt
      go false = f s (bytes_drop 1 (x ∷ s) h) (omega arith)
  cell_range c n f false at s h k = f s h k

  real_need : (b : Bool) (s : List ℕ) → cell_need b (Fixed 4) s ≤ cond b 5 4
  unfolding nullable_need need
  real_need true [] = omega arith
  real_need true (x ∷ s) = go (eqb x 0xFF)
    where
      go : (b : Bool) → cond b 1 (1 + 4) ≤ 5
      go true = omega arith
      go false = omega arith
  real_need false s = omega arith

  or_more : (b : Bool) (n : ℕ) → n ≤ cond b (suc n) n
  or_more true n = omega arith
  or_more false n = omega arith

  piece_range : (c : ColumnDescriptor) → Fitting c.db2_type → (at : ℕ) (r : List ℕ) → AreBytes r → RangedPiece (cell_of c.nullable c at (take (column_need c r) r))
  unfolding column_need
  piece_range c f at r h = go (is_real c.db2_type) refl
    where
      s : List ℕ
      s = take (column_need c r) r

      there : AreBytes s
      there = bytes_take (column_need c r) r h

      go : (b : Bool) → is_real c.db2_type ≡ b → RangedPiece (cell_of c.nullable c at s)
      go true e =
          let q = is_real_lem c.db2_type f e in
          let n : column_need c r ≤ cond c.nullable 5 4 = rw q (real_need c.nullable r) in
          cell_range c 4 (real_item c q) c.nullable at s there (omega (arith, length-take (column_need c r) r))
      go false e = cell_range c (length s) (λ t k l. other_item c t e) c.nullable at s there (or_more c.nullable (length s))

  -- ---- a row

  abbrev AllRanged : List Cell → Type 0
  AllRanged [] = Unit {0}
  AllRanged (p ∷ ps) = RangedPiece p × AllRanged ps

  pub walk_range : (start : ℕ) (cs : List ColumnDescriptor) (at : ℕ) (s : List ℕ) → AllFit cs → AreBytes s → is_done (walk start cs at s) ≡ true → AllRanged (pieces_of (walk start cs at s))
  unfolding walk
  walk_range start [] at s f h d = tt
  walk_range start (c ∷ cs) at s f h d =
      let k = column_need c s in
      let e = walk_step start c cs at s k refl (walk_first start c cs at s d) in
      let a = cons_all (cell_of c.nullable c at (take k s)) (walk start cs (at + k) (drop k s)) (rw e at d) in
      rw (e, a.1) (piece_range c f.0.kind at s h, walk_range start cs (at + k) (drop k s) f.1 (bytes_drop k s h) a.0)

  -- ---- its values

  part_range : (k : ByteSort) (p : Place) → InRange (part_value k p)
  part_range ByteSort.binary p = tt
  part_range ByteSort.blob p = tt

  text_range : (k : TextSort) (p : Place) → InRange (text_value k p)
  text_range TextSort.decimal p = tt
  text_range TextSort.char p = tt
  text_range TextSort.var_char p = tt
  text_range TextSort.clob p = tt
  text_range TextSort.row_id p = tt
  text_range TextSort.date p = tt
  text_range TextSort.time p = tt
  text_range TextSort.timestamp p = tt
  text_range TextSort.xml p = tt

  item_value_lem : (x : Item) (at next : ℕ) → Ranged x → InRange (value_of x at next)
  unfolding value_of
  item_value_lem nothing at next h = tt
  item_value_lem (numeric x) at next h = h
  item_value_lem (boolean b) at next h = tt
  item_value_lem (part k from l) at next h = part_range k _
  item_value_lem (text k t) at next h = text_range k _

  piece_value : (p : Cell) (next : ℕ) → RangedPiece p → InRange (cell_value L p next).value
  unfolding cell_value blank_value
  piece_value absent next h = tt
  piece_value (present c at s) next h = item_value_lem (item_in L c s) at next h

  pub values_range : (ps : List Cell) (next : ℕ) → AllRanged ps → AllInRange (row_values L ps next)
  unfolding row_values
  values_range [] next h = tt
  values_range (p ∷ ps) next h = (piece_value p next h.0, values_range ps (next + length (item_text (cell_item L p))) h.1)
