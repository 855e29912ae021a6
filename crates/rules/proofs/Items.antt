-- What each type's value is, as far as answers need it: of a sort that the type allows, and a part that lies within the value's own bytes. Assumes nothing.
use Rattle.std.specs.Prelude.{None, Option, Some}
use Prim.Native.Nat.{ℕ, ◌-◌, ◌≤◌}
use mathlib.Core.Path.{◌≡◌, refl}
use mathlib.Core.Bool.{Bool, true, false, cond, ◌||◌}
use mathlib.Core.List.{List, [], ◌∷◌}
use mathlib.Core.Logic.{◌⊎◌, inl, inr}
use native.Mathlib.Omega.{arith}
use lib.ListN.{length, drop}
use lib.Dec.{eqb}
use Rattle.types.specs.declared.Db2Type.{Db2Type}
use Rattle.types.specs.declared.Db2Type.TheVariants as type
use Rattle.types.specs.declared.ColumnDescriptor.{ColumnDescriptor}
use Rattle.types.specs.Names.{bit8000, low15, named_in}
use Rattle.numbers.specs.Number.{Number}
use Rattle.buffer.specs.Buffer.{Converted, unreplaced}
use Rattle.rules.specs.Extent.{is_reference, is_short_reference}
use Rattle.rules.specs.Meaning.{ByteSort, TextSort, Item, nothing, numeric, boolean, part, text, Conversions, Lob, blobs, clobs, xmls, all_zero, is_empty_reference, header_bytes, is_empty_header, header_item, lob_empty, lob_reference, lob_inline, lob_item, varying_item, lob_bytes_item, lob_char_item, type_item}
use Rattle.rules.specs.Sorts.{Sort, sorts_of, Among}

abbrev pub part_sort : ByteSort → Sort
part_sort ByteSort.binary = Sort.binary
part_sort ByteSort.blob = Sort.blob

abbrev pub text_sort : TextSort → Sort
text_sort TextSort.decimal = Sort.decimal
text_sort TextSort.char = Sort.char
text_sort TextSort.var_char = Sort.var_char
text_sort TextSort.clob = Sort.clob
text_sort TextSort.row_id = Sort.row_id
text_sort TextSort.date = Sort.date
text_sort TextSort.time = Sort.time
text_sort TextSort.timestamp = Sort.timestamp
text_sort TextSort.xml = Sort.xml

abbrev lob_sort : Lob → Sort
lob_sort blobs = Sort.blob
lob_sort clobs = Sort.clob
lob_sort xmls = Sort.xml

-- an item of the sorts ks, within n bytes. N is what is known of numbers, and Z of nothing
abbrev pub Item_of : (ks : List Sort) (n : ℕ) (N : Number → Type 0) (Z : Type 0) → Item → Type 0
Item_of ks n N Z nothing = Z
Item_of ks n N Z (numeric x) = N x
Item_of ks n N Z (boolean b) = Among ks Sort.boolean
Item_of ks n N Z (part k from l) = Among ks (part_sort k) × (l ≤ n - from)
Item_of ks n N Z (text k t) = Among ks (text_sort k)

either : (P : Item → Type 0) (b : Bool) (x y : Item) → P x → P y → P (cond b x y)
either P true x y h k = h
either P false x y h k = k

module _ (L : Conversions) (ks : List Sort) (s : List ℕ) (N : Number → Type 0) (Z : Type 0) where
  of_empty : (k : Lob) → Among ks (lob_sort k) → Item_of ks (length s) N Z (lob_empty k)
  unfolding lob_empty
  of_empty blobs m = (m, omega arith)
  of_empty clobs m = m
  of_empty xmls m = m

  of_reference : (k : Lob) → Among ks (lob_sort k) → Item_of ks (length s) N Z (lob_reference L k s)
  unfolding lob_reference
  of_reference blobs m = (m, omega arith)
  of_reference clobs m = m
  of_reference xmls m = m

  of_inline_lem : (k : Lob) → Among ks (lob_sort k) → Item_of ks (length s) N Z (lob_inline L k s)
  unfolding lob_inline
  of_inline_lem blobs m = (m, omega arith)
  of_inline_lem clobs m = m
  of_inline_lem xmls m = m

  abbrev Of : Item → Type 0
  Of = Item_of ks (length s) N Z

  of_lob : (r : Option ℕ) (b : Bool) (k : Lob) → Among ks (lob_sort k) → Item_of ks (length s) N Z (lob_item L r b k s)
  unfolding lob_item
  of_lob (Some w) b k m = either Of (all_zero s || is_empty_reference s) (lob_empty k) (lob_reference L k s) (of_empty k m) (of_reference k m)
  of_lob None b k m =
      either Of (is_reference s) (cond (all_zero (drop 1 s)) (lob_empty k) (lob_reference L k s)) (cond b (lob_reference L k s) (lob_inline L k s))
      (either Of (all_zero (drop 1 s)) (lob_empty k) (lob_reference L k s) (of_empty k m) (of_reference k m))
      (either Of b (lob_reference L k s) (lob_inline L k s) (of_reference k m) (of_inline_lem k m))

  of_header : Among ks Sort.clob → Item_of ks (length s) N Z (header_item L s)
  unfolding header_item
  of_header m = either Of (is_empty_header (header_bytes s)) (text TextSort.clob (unreplaced [])) (text TextSort.clob (L.locator (header_bytes s))) m m

  of_varying : (n : ℕ) (t : Converted) → Among ks Sort.clob → Among ks Sort.var_char → Item_of ks (length s) N Z (varying_item L n t s)
  unfolding varying_item
  of_varying n t m v = either Of (bit8000 n) (header_item L s) (text TextSort.var_char t) (of_header m) v

  of_lob_bytes : (n ccsid : ℕ) → Among ks Sort.blob → Among ks Sort.var_char → Item_of ks (length s) N Z (lob_bytes_item L n ccsid s)
  unfolding lob_bytes_item
  of_lob_bytes n ccsid m v =
      let whole = part ByteSort.blob 0 (length s) in
      let converted = text TextSort.var_char (L.characters ccsid s) in
      either Of (is_short_reference n s) whole (cond (L.is_likely s) converted whole) (m, omega arith)
      (either Of (L.is_likely s) converted whole v (m, omega arith))

  of_lob_char : (n ccsid : ℕ) → Among ks Sort.clob → Item_of ks (length s) N Z (lob_char_item L n ccsid s)
  unfolding lob_char_item
  of_lob_char n ccsid m = either Of (is_short_reference n s) (text TextSort.clob (L.locator s)) (text TextSort.clob (L.characters ccsid s)) m m

-- a type whose values are nothing: Null, or DecFloat, which is never read
abbrev pub Nothing : Db2Type → Type 0
Nothing t = (t ≡ type.Null) ⊎ (named_in (type.DecFloat 0 ∷ []) t ≡ true)

-- what is known of the five conversions of numbers
pub record Numbers (L : Conversions) (N : Db2Type → Number → Type 0) : Type 0 where
  pub of_small_int : (c : ColumnDescriptor) (s : List ℕ) → N type.SmallInt (L.read_small_int c.byte_order s)
  pub of_integer : (c : ColumnDescriptor) (s : List ℕ) → N type.Integer (L.read_integer c.byte_order s)
  pub of_big_int : (c : ColumnDescriptor) (s : List ℕ) → N type.BigInt (L.read_big_int c.byte_order s)
  pub of_real : (c : ColumnDescriptor) (s : List ℕ) → N type.Real (L.read_real c.byte_order s)
  pub of_double : (c : ColumnDescriptor) (s : List ℕ) → N type.Double (L.read_double c.byte_order s)

module _ (L : Conversions) (N : Db2Type → Number → Type 0) (ns : Numbers L N) where
  pub item_of : (t : Db2Type) (c : ColumnDescriptor) (s : List ℕ) → Item_of (sorts_of t) (length s) (N t) (Nothing t) (type_item L t c s)
  item_of type.SmallInt c s = ns.of_small_int c s
  item_of type.Integer c s = ns.of_integer c s
  item_of type.BigInt c s = ns.of_big_int c s
  item_of type.Real c s = ns.of_real c s
  item_of type.Double c s = ns.of_double c s
  item_of (type.Decimal precision scale) c s = inl refl
  item_of (type.DecFloat digits) c s = inr refl
  item_of (type.Char n) c s = inl refl
  item_of (type.VarChar n) c s =
      of_varying L (Sort.var_char ∷ Sort.clob ∷ []) s (N (type.VarChar n)) (Nothing (type.VarChar n)) n (L.characters c.ccsid (drop 2 s)) (inr (inl refl)) (inl refl)
  item_of type.LongVarChar c s = inl refl
  item_of type.Clob c s =
      of_lob L (Sort.clob ∷ []) s (N type.Clob) (Nothing type.Clob) c.extdta_reference_length (eqb c.length 0) clobs (inl refl)
  item_of (type.Binary n) c s = (inl refl, omega arith)
  item_of (type.VarBinary n) c s = (inl refl, omega arith)
  item_of type.Blob c s =
      of_lob L (Sort.blob ∷ []) s (N type.Blob) (Nothing type.Blob) c.extdta_reference_length (eqb c.length 0) blobs (inl refl)
  item_of type.BlobLocator c s = of_reference L (Sort.blob ∷ []) s (N type.BlobLocator) (Nothing type.BlobLocator) blobs (inl refl)
  item_of type.Date c s = inl refl
  item_of type.Time c s = inl refl
  item_of type.Timestamp c s = inl refl
  item_of (type.Graphic n) c s = inl refl
  item_of (type.VarGraphic n) c s =
      of_varying L (Sort.var_char ∷ Sort.clob ∷ []) s (N (type.VarGraphic n)) (Nothing (type.VarGraphic n)) n (L.graphics c.ccsid (drop 2 s)) (inr (inl refl)) (inl refl)
  item_of type.DbClob c s =
      of_lob L (Sort.clob ∷ []) s (N type.DbClob) (Nothing type.DbClob) c.extdta_reference_length (eqb c.length 0) clobs (inl refl)
  item_of type.ClobLocator c s = of_reference L (Sort.clob ∷ []) s (N type.ClobLocator) (Nothing type.ClobLocator) clobs (inl refl)
  item_of type.DbClobLocator c s = of_reference L (Sort.clob ∷ []) s (N type.DbClobLocator) (Nothing type.DbClobLocator) clobs (inl refl)
  item_of (type.LobBytes n) c s =
      of_lob_bytes L (Sort.var_char ∷ Sort.blob ∷ []) s (N (type.LobBytes n)) (Nothing (type.LobBytes n)) (low15 n) c.ccsid (inr (inl refl)) (inl refl)
  item_of (type.LobChar n) c s = of_lob_char L (Sort.clob ∷ []) s (N (type.LobChar n)) (Nothing (type.LobChar n)) (low15 n) c.ccsid (inl refl)
  item_of (type.RowId n) c s = inl refl
  item_of type.Boolean c s = inl refl
  item_of type.Xml c s = of_lob L (Sort.xml ∷ []) s (N type.Xml) (Nothing type.Xml) c.extdta_reference_length false xmls (inl refl)
  item_of type.Null c s = inl refl
