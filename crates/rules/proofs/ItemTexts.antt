-- What holds of every text that the conversions make holds of a value's text, whatever its type. Assumes nothing.
use Rattle.std.specs.Prelude.{None, Option, Some}
use Prim.Native.Nat.{ℕ}
use mathlib.Core.Path.{◌≡◌, refl}
use mathlib.Core.Bool.{Bool, true, false, cond, ◌||◌}
use mathlib.Core.List.{List, []}
use lib.ListN.{drop}
use lib.Dec.{eqb}
use Rattle.buffer.specs.Buffer.{Converted, unreplaced}
use Rattle.types.specs.declared.Db2Type.{Db2Type}
use Rattle.types.specs.declared.Db2Type.TheVariants as type
use Rattle.types.specs.declared.ColumnDescriptor.{ColumnDescriptor}
use Rattle.types.specs.Names.{bit8000, low15}
use Rattle.rules.specs.Extent.{is_reference, is_short_reference, says_header}
use Rattle.rules.specs.Meaning.{Item, nothing, numeric, boolean, part, text, Conversions, Lob, blobs, clobs, xmls, all_zero, is_empty_reference, header_bytes, is_empty_header, lob_empty, header_item, lob_reference, lob_inline, lob_item, varying_item, lob_bytes_item, lob_char_item, type_item, item_in}

-- an item's text, where it has one
abbrev pub TextOf : (Converted → Type 0) → Item → Type 0
TextOf T nothing = Unit {0}
TextOf T (numeric x) = Unit {0}
TextOf T (boolean b) = Unit {0}
TextOf T (part k from n) = Unit {0}
TextOf T (text k t) = T t

-- what is known of the texts that the conversions make of the bytes s, or of those from a place on, for a value of the type t
pub record Texts (L : Conversions) (t : Db2Type) (s : List ℕ) (T : Converted → Type 0) : Type 0 where
  pub of_none : T (unreplaced [])
  pub of_packed : (precision scale : ℕ) → t ≡ type.Decimal precision scale → T (L.packed scale s)
  pub of_characters : (ccsid n : ℕ) → T (L.characters ccsid (drop n s))
  pub of_graphics : (ccsid n : ℕ) → T (L.graphics ccsid (drop n s))
  pub of_inline : (n : ℕ) → T (L.inline_text (drop n s))
  pub of_locator : (n : ℕ) → T (L.locator (drop n s))
  pub of_row_id : T (L.row_identifier s)

module _ (L : Conversions) (T : Converted → Type 0) where
  picked : (b : Bool) (x y : Item) → TextOf T x → TextOf T y → TextOf T (cond b x y)
  picked true x y f g = f
  picked false x y f g = g

  module _ (u : Db2Type) (s : List ℕ) (h : Texts L u s T) where
    of_empty : (k : Lob) → TextOf T (lob_empty k)
    unfolding lob_empty
    of_empty blobs = tt
    of_empty clobs = h.of_none
    of_empty xmls = h.of_none

    of_reference : (k : Lob) → TextOf T (lob_reference L k s)
    unfolding lob_reference
    of_reference blobs = tt
    of_reference clobs = h.of_locator 0
    of_reference xmls = h.of_locator 0

    of_inline_lem : (k : Lob) → TextOf T (lob_inline L k s)
    unfolding lob_inline
    of_inline_lem blobs = tt
    of_inline_lem clobs = h.of_inline 4
    of_inline_lem xmls = h.of_inline 4

    of_lob : (r : Option ℕ) (located : Bool) (k : Lob) → TextOf T (lob_item L r located k s)
    unfolding lob_item
    of_lob (Some w) located k = picked (all_zero s || is_empty_reference s) _ _ (of_empty k) (of_reference k)
    of_lob None located k =
        picked (is_reference s) _ _ (picked (all_zero (drop 1 s)) _ _ (of_empty k) (of_reference k)) (picked located _ _ (of_reference k) (of_inline_lem k))

    header_of : (b : Bool) → T (L.locator (cond b (drop 2 s) s))
    header_of true = h.of_locator 2
    header_of false = h.of_locator 0

    of_varying : (n : ℕ) (t : Converted) → T t → TextOf T (varying_item L n t s)
    unfolding varying_item header_item
    of_varying n t f = picked (bit8000 n) _ _ (picked (is_empty_header (header_bytes s)) _ _ h.of_none (header_of (says_header s))) f

    of_lob_bytes : (n ccsid : ℕ) → TextOf T (lob_bytes_item L n ccsid s)
    unfolding lob_bytes_item
    of_lob_bytes n ccsid = picked (is_short_reference n s) _ _ tt (picked (L.is_likely s) _ _ (h.of_characters ccsid 0) tt)

    of_lob_char : (n ccsid : ℕ) → TextOf T (lob_char_item L n ccsid s)
    unfolding lob_char_item
    of_lob_char n ccsid = picked (is_short_reference n s) _ _ (h.of_locator 0) (h.of_characters ccsid 0)

  type_text : (t : Db2Type) (c : ColumnDescriptor) (s : List ℕ) → Texts L t s T → TextOf T (type_item L t c s)
  type_text type.SmallInt c s h = tt
  type_text type.Integer c s h = tt
  type_text type.BigInt c s h = tt
  type_text type.Real c s h = tt
  type_text type.Double c s h = tt
  type_text (type.Decimal precision scale) c s h = h.of_packed precision scale refl
  type_text (type.DecFloat digits) c s h = tt
  type_text (type.Char n) c s h = h.of_characters c.ccsid 0
  type_text (type.VarChar n) c s h = of_varying (type.VarChar n) s h n (L.characters c.ccsid (drop 2 s)) (h.of_characters c.ccsid 2)
  type_text type.LongVarChar c s h = h.of_characters c.ccsid 2
  type_text type.Clob c s h = of_lob type.Clob s h c.extdta_reference_length (eqb c.length 0) clobs
  type_text (type.Binary n) c s h = tt
  type_text (type.VarBinary n) c s h = tt
  type_text type.Blob c s h = of_lob type.Blob s h c.extdta_reference_length (eqb c.length 0) blobs
  type_text type.BlobLocator c s h = of_reference type.BlobLocator s h blobs
  type_text type.Date c s h = h.of_characters c.ccsid 0
  type_text type.Time c s h = h.of_characters c.ccsid 0
  type_text type.Timestamp c s h = h.of_characters c.ccsid 0
  type_text (type.Graphic n) c s h = h.of_graphics c.ccsid 0
  type_text (type.VarGraphic n) c s h = of_varying (type.VarGraphic n) s h n (L.graphics c.ccsid (drop 2 s)) (h.of_graphics c.ccsid 2)
  type_text type.DbClob c s h = of_lob type.DbClob s h c.extdta_reference_length (eqb c.length 0) clobs
  type_text type.ClobLocator c s h = of_reference type.ClobLocator s h clobs
  type_text type.DbClobLocator c s h = of_reference type.DbClobLocator s h clobs
  type_text (type.LobBytes n) c s h = of_lob_bytes (type.LobBytes n) s h (low15 n) c.ccsid
  type_text (type.LobChar n) c s h = of_lob_char (type.LobChar n) s h (low15 n) c.ccsid
  type_text (type.RowId n) c s h = h.of_row_id
  type_text type.Boolean c s h = tt
  type_text type.Xml c s h = of_lob type.Xml s h c.extdta_reference_length false xmls
  type_text type.Null c s h = tt

  -- the value of a column
  pub item_text_lem : (c : ColumnDescriptor) (s : List ℕ) → Texts L c.db2_type s T → TextOf T (item_in L c s)
  unfolding item_in
  item_text_lem c s h = type_text c.db2_type c s h
