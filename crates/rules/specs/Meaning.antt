-- What a value's bytes mean: a function of the column and of exactly those bytes, `need` of them: W3, W6, W7 (the Rust: decode_column_value,
-- column_has_extdta_reference). The conversions of single values are a parameter: nothing that is proved of rows rests on which they are.
-- specs/Conversions.antt has those of the row call. Where the Rust makes a test on the rest of the row, it is made here on the value's own bytes; proofs/Extents.antt
-- has the laws that the two agree. Assumes nothing.
use Rattle.std.specs.Prelude.{ℕ, ◌-◌, min, Bool, true, false, cond, not, ◌&&◌, ◌||◌, List, [], ◌∷◌, length, take, drop, eqb, None, Option, Some}
use Rattle.types.specs.declared.Db2Type.{Db2Type}
use Rattle.types.specs.declared.Db2Type.TheVariants as type
use Rattle.types.specs.declared.ByteOrder.{ByteOrder}
use Rattle.types.specs.declared.ColumnDescriptor.{ColumnDescriptor}
use Rattle.types.specs.Names.{own_numbers, bit8000, low15, named_in, is_absent}
use Rattle.numbers.specs.Number.{Number}
use Rattle.buffer.specs.Buffer.{Converted, unreplaced}
use Rattle.rules.specs.Extent.{is_reference, is_short_reference, says_header}

-- the sorts of value that are a part of the row, and those that are a text
pub data ByteSort : Type 0 where
  binary blob : ByteSort

pub data TextSort : Type 0 where
  decimal char var_char clob row_id date time timestamp xml : TextSort

-- what a value is, before it has a place in the answer
pub data Item : Type 0 where
  nothing : Item
  numeric : Number → Item
  boolean : Bool → Item
  -- a part of the value's own bytes: where it begins among them, and its length
  part : ByteSort → ℕ → ℕ → Item
  -- a text, and how many U+FFFD were put in
  text : TextSort → Converted → Item

-- the conversions of single values; of a text with the number of U+FFFD put in
pub record Conversions : Type 0 where
  -- by the column's byte order
  pub read_small_int : ByteOrder → List ℕ → Number
  pub read_integer : ByteOrder → List ℕ → Number
  pub read_big_int : ByteOrder → List ℕ → Number
  pub read_real : ByteOrder → List ℕ → Number
  pub read_double : ByteOrder → List ℕ → Number
  -- by the type's scale
  pub packed : ℕ → List ℕ → Converted
  -- by the column's CCSID
  pub characters : ℕ → List ℕ → Converted
  pub graphics : ℕ → List ℕ → Converted
  -- the text of a LOB within the row; whether bytes are likely text; the texts of a locator and of a row id
  pub inline_text : List ℕ → Converted
  pub is_likely : List ℕ → Bool
  pub locator : List ℕ → Converted
  pub row_identifier : List ℕ → Converted

unfoldable pub all_zero : List ℕ → Bool
all_zero [] = true
all_zero (b ∷ s) = eqb b 0 && all_zero s

-- the kinds of LOB column: Blob; Clob and DbClob; Xml
pub data Lob : Type 0 where
  blobs clobs xmls : Lob

-- the Rust: empty_lob_value
unfoldable pub lob_empty : Lob → Item
lob_empty blobs = part blob 0 0
lob_empty clobs = text clob (unreplaced [])
lob_empty xmls = text xml (unreplaced [])

-- a reference is empty where it begins with 02 and all its other bytes are zero
abbrev pub is_empty_reference : List ℕ → Bool
is_empty_reference s = is_reference s && all_zero (drop 1 s)

-- term: W3. The header is what stands behind the two bytes that say its length, or all (the Rust: decode_externalized_lob_header)
abbrev pub header_bytes : List ℕ → List ℕ
header_bytes s = cond (says_header s) (drop 2 s) s

-- only the eight bytes after 02 are looked at
abbrev pub is_empty_header : List ℕ → Bool
is_empty_header h = is_reference h && all_zero (take 8 (drop 1 h))

module _ (L : Conversions) where
  abbrev pub header_in : List ℕ → Item
  header_in h = cond (is_empty_header h) (text clob (unreplaced [])) (text clob (L.locator h))

  unfoldable pub header_item : List ℕ → Item
  header_item s = header_in (header_bytes s)

  -- a reference or a locator: a Blob shows its first four bytes, the others a text
  unfoldable pub lob_reference : Lob → List ℕ → Item
  lob_reference blobs s = part blob 0 (min 4 (length s))
  lob_reference clobs s = text clob (L.locator s)
  lob_reference xmls s = text xml (L.locator s)

  -- a LOB within the row: what stands behind its four bytes of length
  unfoldable pub lob_inline : Lob → List ℕ → Item
  lob_inline blobs s = part blob 4 (length s - 4)
  lob_inline clobs s = text clob (L.inline_text (drop 4 s))
  lob_inline xmls s = text xml (L.inline_text (drop 4 s))

  -- With a reference length the value is a reference, empty also where all its bytes are zero
  abbrev pub declared_lob : Lob → List ℕ → Item
  declared_lob k s = cond (all_zero s || is_empty_reference s) (lob_empty k) (lob_reference k s)

  -- Without one it is a reference of nine bytes, or a locator of four (`located`: Blob, Clob or DbClob of length 0), or within the row
  abbrev pub undeclared_lob : Bool → Lob → List ℕ → Item
  undeclared_lob located k s =
      cond (is_reference s) (cond (all_zero (drop 1 s)) (lob_empty k) (lob_reference k s)) (cond located (lob_reference k s) (lob_inline k s))

  unfoldable pub lob_item : Option ℕ → Bool → Lob → List ℕ → Item
  lob_item (Some w) located k s = declared_lob k s
  lob_item None located k s = undeclared_lob located k s

  unfoldable pub varying_item : ℕ → Converted → List ℕ → Item
  varying_item n converted s = cond (bit8000 n) (header_item s) (text var_char converted)

  -- LobBytes: a reference in hexadecimal is a Blob; else likely text is a VarChar, and other bytes are a Blob
  unfoldable pub lob_bytes_item : ℕ → ℕ → List ℕ → Item
  lob_bytes_item n ccsid s =
      cond (is_short_reference n s) (part blob 0 (length s)) (cond (L.is_likely s) (text var_char (L.characters ccsid s)) (part blob 0 (length s)))

  unfoldable pub lob_char_item : ℕ → ℕ → List ℕ → Item
  lob_char_item n ccsid s = cond (is_short_reference n s) (text clob (L.locator s)) (text clob (L.characters ccsid s))

  -- the Rust's arms of decode_column_value, in the order of the enum. A DecFloat is never read: refusal 5
  abbrev pub type_item : Db2Type → ColumnDescriptor → List ℕ → Item
  type_item type.SmallInt c s = numeric (L.read_small_int c.byte_order s)
  type_item type.Integer c s = numeric (L.read_integer c.byte_order s)
  type_item type.BigInt c s = numeric (L.read_big_int c.byte_order s)
  type_item type.Real c s = numeric (L.read_real c.byte_order s)
  type_item type.Double c s = numeric (L.read_double c.byte_order s)
  type_item (type.Decimal precision scale) c s = text decimal (L.packed scale s)
  type_item (type.DecFloat digits) c s = nothing
  type_item (type.Char n) c s = text char (L.characters c.ccsid s)
  type_item (type.VarChar n) c s = varying_item n (L.characters c.ccsid (drop 2 s)) s
  type_item type.LongVarChar c s = text var_char (L.characters c.ccsid (drop 2 s))
  type_item type.Clob c s = lob_item c.extdta_reference_length (eqb c.length 0) clobs s
  type_item (type.Binary n) c s = part binary 0 (length s)
  type_item (type.VarBinary n) c s = part binary 2 (length s - 2)
  type_item type.Blob c s = lob_item c.extdta_reference_length (eqb c.length 0) blobs s
  type_item type.BlobLocator c s = lob_reference blobs s
  type_item type.Date c s = text date (L.characters c.ccsid s)
  type_item type.Time c s = text time (L.characters c.ccsid s)
  type_item type.Timestamp c s = text timestamp (L.characters c.ccsid s)
  type_item (type.Graphic n) c s = text char (L.graphics c.ccsid s)
  type_item (type.VarGraphic n) c s = varying_item n (L.graphics c.ccsid (drop 2 s)) s
  type_item type.DbClob c s = lob_item c.extdta_reference_length (eqb c.length 0) clobs s
  type_item type.ClobLocator c s = lob_reference clobs s
  type_item type.DbClobLocator c s = lob_reference clobs s
  type_item (type.LobBytes n) c s = lob_bytes_item (low15 n) c.ccsid s
  type_item (type.LobChar n) c s = lob_char_item (low15 n) c.ccsid s
  type_item (type.RowId n) c s = text row_id (L.row_identifier s)
  type_item type.Boolean c s = boolean (not (all_zero s))
  type_item type.Xml c s = lob_item c.extdta_reference_length false xmls s
  type_item type.Null c s = nothing

  unfoldable pub item_in : ColumnDescriptor → List ℕ → Item
  item_in c s = type_item c.db2_type c s

-- ---- external columns; the Rust: column_has_extdta_reference

-- an empty LOB is not external: the sorts that are LOBs
abbrev pub is_lob_text : TextSort → Bool
is_lob_text decimal = false
is_lob_text char = false
is_lob_text var_char = false
is_lob_text clob = true
is_lob_text row_id = false
is_lob_text date = false
is_lob_text time = false
is_lob_text timestamp = false
is_lob_text xml = true

abbrev pub is_lob_part : ByteSort → Bool
is_lob_part binary = false
is_lob_part blob = true

unfoldable pub is_empty_lob : Item → Bool
is_empty_lob nothing = false
is_empty_lob (numeric x) = false
is_empty_lob (boolean b) = false
is_empty_lob (part k from len) = is_lob_part k && eqb len 0
is_empty_lob (text k t) = is_lob_text k && eqb (length t.text_bytes) 0

abbrev pub type_refers : Db2Type → ColumnDescriptor → List ℕ → Bool
type_refers t c s =
    (named_in (type.Blob ∷ type.Clob ∷ type.DbClob ∷ type.Xml ∷ []) t
    && (not (is_absent c.extdta_reference_length) || (is_reference s || (eqb c.length 0 && not (named_in (type.Xml ∷ []) t)))))
    || (named_in (type.BlobLocator ∷ type.ClobLocator ∷ type.DbClobLocator ∷ []) t
    || ((named_in (type.VarChar 0 ∷ type.VarGraphic 0 ∷ []) t && bit8000 (own_numbers t))
    || (named_in (type.LobBytes 0 ∷ type.LobChar 0 ∷ []) t && is_short_reference (low15 (own_numbers t)) s)))

-- term: W7. A value that is there is external where it refers to data outside the row
unfoldable pub refers_in : Conversions → ColumnDescriptor → List ℕ → Bool
refers_in L c s = not (is_empty_lob (item_in L c s)) && type_refers c.db2_type c s
