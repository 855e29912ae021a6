-- The words of columns are read as those columns. Assumes nothing.
use Rattle.std.specs.Prelude.{None, Option, Some}
use Prim.Native.Nat.{ℕ, suc, ◌+◌, ◌*◌, ◌/◌, ◌%◌, ◌≤◌, ◌<◌, ◌^◌}
use mathlib.Core.Path.{◌≡◌, refl, ap, ◌∙◌}
use mathlib.Core.Bool.{Bool, true, false, cond}
use mathlib.Core.List.{List, [], ◌∷◌}
use native.Mathlib.Omega.{arith}
use borrow.Author.Tests.{eq-eqb}
use Rattle.types.specs.Names.{name_of, own_numbers}
use Rattle.types.specs.declared.ByteOrder.{ByteOrder}
use Rattle.types.specs.declared.ByteOrder.TheVariants.{BigEndian, LittleEndian}
use Rattle.types.specs.declared.Origin.{Origin}
use Rattle.types.specs.declared.Origin.TheVariants.{Sda, UndeclaredLid, DeclaredLid}
use Rattle.types.specs.declared.ColumnDescriptor.{ColumnDescriptor}
use lib.Dec.{eqb}
use lib.ListN.{length, drop, get_or, drop_of_length-le}
use lib.Seq.{drop-cons}
use Rattle.words.specs.Words.{little_endian_bit, reference_bit, reference_width, origin_number, first_word, second_word, pack_columns}
use Rattle.words.specs.Reading.{order_named, reference_named, origin_named, column_named, is_column, read_column, joined, read_columns}
use Rattle.words.proofs.TypeWords.{Named, named}
use Rattle.words.proofs.Fields.{WidthFits, Fits, Fields, origin_small, fields}

order_named_lem : (o : ByteOrder) → order_named (little_endian_bit o) ≡ o
order_named_lem BigEndian = refl
order_named_lem LittleEndian = refl

reference_named_lem : (r : Option ℕ) → WidthFits r → reference_named (reference_bit r) (reference_width r % 2 ^ 16) ≡ r
reference_named_lem None h = refl
reference_named_lem (Some n) h = let e : n % 2 ^ 16 ≡ n = omega arith in rw e

flag_named : (b : Bool) → eqb (cond b 1 0) 1 ≡ b
flag_named true = refl
flag_named false = refl

origin_named_lem : (o : Origin) → origin_named (origin_number o) ≡ o
origin_named_lem Sda = refl
origin_named_lem UndeclaredLid = refl
origin_named_lem DeclaredLid = refl

lowest : (a k n : ℕ) → k < 256 → n < 65536 → a % 2 ^ 24 ≡ k + n * 2 ^ 8 → (a % 2 ^ 8 ≡ k) × (a / 2 ^ 8 % 2 ^ 16 ≡ n)
lowest a k n hk hn e = (omega arith, omega arith)

narrow : (a k : ℕ) → k < 2 ^ 8 → a % 2 ^ 16 ≡ k → a % 2 ^ 8 ≡ k
narrow a k h e = omega arith

two_bits : (a k : ℕ) → k ≤ 2 → a ≡ k → a % 2 ^ 2 ≡ k
two_bits a k h e = omega arith

module _ (c : ColumnDescriptor) (f : Fits c) where
  of_type : Named c.db2_type
  of_type = named c.db2_type f.kind

  here : Fields c
  here = fields c f

  -- words that have the column's fields name it
  named_by : (a b : ℕ) → a % 2 ^ 8 ≡ name_of c.db2_type → a / 2 ^ 8 % 2 ^ 16 ≡ own_numbers c.db2_type → a / 2 ^ 24 % 2 ^ 8 ≡ c.drda_type
      → a / 2 ^ 32 % 2 ^ 8 ≡ c.column_index → a / 2 ^ 48 % 2 ≡ cond c.nullable 1 0 → a / 2 ^ 49 % 2 ≡ little_endian_bit c.byte_order
      → a / 2 ^ 50 % 2 ≡ reference_bit c.extdta_reference_length → a / 2 ^ 51 % 2 ^ 2 ≡ origin_number c.origin
      → b % 2 ^ 16 ≡ c.length → b / 2 ^ 16 % 2 ^ 8 ≡ c.precision → b / 2 ^ 24 % 2 ^ 8 ≡ c.scale → b / 2 ^ 32 % 2 ^ 16 ≡ c.ccsid
      → b / 2 ^ 48 ≡ reference_width c.extdta_reference_length → column_named a b ≡ c
  unfolding column_named
  named_by a b e1 e2 e3 e4 e5 e6 e7 e8 e9 e10 e11 e12 e13 =
      rw (e1, e2, e3, e4, e5, e6, e7, e8, e9, e10, e11, e12, e13, of_type.back, flag_named c.nullable, order_named_lem c.byte_order, reference_named_lem c.extdta_reference_length f.width, origin_named_lem c.origin)

  pub named_back : column_named (first_word c) (second_word c) ≡ c
  named_back =
      let l = lowest (first_word c) (name_of c.db2_type) (own_numbers c.db2_type) of_type.place of_type.numbers here.kind in
      named_by (first_word c) (second_word c) l.0 l.1 here.code (narrow (first_word c / 2 ^ 32) c.column_index f.index here.index) here.null here.little
      here.reference (two_bits (first_word c / 2 ^ 51) (origin_number c.origin) (origin_small c.origin) here.origin)
      here.long here.digits here.point here.page here.width

  pub read_back : read_column (first_word c) (second_word c) ≡ Some c
  unfolding read_column is_column
  read_back = rw (named_back, eq-eqb (first_word c) (first_word c) refl, eq-eqb (second_word c) (second_word c) refl)

abbrev pub AllFit : List ColumnDescriptor → Type 0
AllFit [] = Unit {0}
AllFit (c ∷ cs) = Fits c × AllFit cs

pub reads_columns : (cs : List ColumnDescriptor) → AllFit cs → read_columns (pack_columns cs) ≡ Some cs
unfolding read_columns pack_columns
reads_columns [] h = refl
reads_columns (c ∷ cs) h = rw (read_back c h.0, reads_columns cs h.1)

pub packed_length_lem : (cs : List ColumnDescriptor) → length (pack_columns cs) ≡ 2 * length cs
unfolding pack_columns
packed_length_lem [] = refl
packed_length_lem (c ∷ cs) = let e = packed_length_lem cs in omega (arith, e)

-- ---- the columns of words, two words further
module _ (ws : List ℕ) (p : ℕ) where
  pair_at : p + 1 < length ws → drop p ws ≡ get_or ws p 0 ∷ (get_or ws (p + 1) 0 ∷ drop (p + 2) ws)
  pair_at h =
      let a : p < length ws = omega arith in
      let b : suc p < length ws = omega arith in
      let e : p + 1 ≡ suc p = omega arith in
      let e2 : p + 2 ≡ suc (suc p) = omega arith in
      drop-cons ws p 0 a ∙ ap (λ (l : List ℕ). get_or ws p 0 ∷ l) (drop-cons ws (suc p) 0 b) ∙ rw (e, e2)

  pub read_at : p + 1 < length ws → read_columns (drop p ws) ≡ joined (read_column (get_or ws p 0) (get_or ws (p + 1) 0)) (read_columns (drop (p + 2) ws))
  unfolding read_columns
  read_at h = rw (pair_at h)

  pub read_odd : p + 1 ≡ length ws → read_columns (drop p ws) ≡ None
  unfolding read_columns
  read_odd h =
      let a : p < length ws = omega arith in
      let b : length ws ≤ suc p = omega arith in
      rw (drop-cons ws p 0 a, drop_of_length-le ws b)

  pub read_end_lem : p ≡ length ws → read_columns (drop p ws) ≡ Some []
  unfolding read_columns
  read_end_lem h = let b : length ws ≤ p = omega arith in rw (drop_of_length-le ws b)
