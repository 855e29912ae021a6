-- The laws of specs/Releases.antt: what the host's release changes of a row. Assumes nothing.
use Rattle.std.specs.Prelude.{None, Option, Some}
use Prim.Native.Nat.{ℕ, zero, suc, ◌%◌}
use mathlib.Core.Path.{◌≡◌, refl, sym, ap, ◌∙◌}
use mathlib.Core.Bool.{Bool, true, false, cond, not, ◌&&◌, ◌||◌, true≢false}
use mathlib.Core.List.{List, [], ◌∷◌, map}
use lib.ListN.{length, take, drop}
use lib.Dec.{eqb}
use Rattle.buffer.specs.Buffer.{Converted}
use Rattle.conversion.specs.Conversion.{is_release, is_utf16, characters_by, graphics_by}
use Rattle.conversion.specs.Releases.{is_named, ccsid_by}
use Rattle.conversion.proofs.Releases.{releases}
use Rattle.types.specs.declared.Db2Type.{Db2Type}
use Rattle.types.specs.declared.Db2Type.TheVariants as type
use Rattle.types.specs.declared.ColumnDescriptor.{ColumnDescriptor}
use Rattle.types.specs.declared.Columns.{Columns}
use Rattle.types.specs.Names.{named_in, bit8000, low15}
use Rattle.types.specs.Places.{covered}
use Rattle.rules.specs.Extent.{type_extent}
use Rattle.rules.specs.Meaning.{text, var_char, char, date, time, timestamp, Lob, blobs, clobs, xmls, lob_reference, lob_inline, lob_item, header_item, varying_item, lob_bytes_item, lob_char_item, type_item, item_in}
use Rattle.rules.specs.Row.{RowTold, refused_row, answer_with, text_with}
use Rattle.rules.specs.Conversions.{conversions_of, row_answer, row_text}
use Rattle.rules.specs.Releases.{goes_by_ccsid, may_be_utf16, All, with_ccsid, named_columns, RowReleases}
use Rattle.rules.proofs.SameAnswers.{SameColumn, AllSame, same_answers}

abbrev pub Answer : Type 0
Answer = Columns → List ℕ → List ℕ → RowTold

abbrev pub After : Type 0
After = Columns → List ℕ → List ℕ → List ℕ

-- What holds of a row call at a release's conversions, and of one that refuses everything, holds of the row call
pub at_release : (release : ℕ) (P : Answer → After → Type 0) → P (answer_with (conversions_of release)) (text_with (conversions_of release))
    → P (λ columns s d. refused_row 22 []) (λ columns s d. d) → P (row_answer release) (row_text release)
unfolding row_answer row_text
at_release release P h k = go (is_release release)
  where
    go : (x : Bool) → P (λ columns s d. cond x (answer_with (conversions_of release) columns s d) (refused_row 22 [])) (λ columns s d. cond x (text_with (conversions_of release) columns s d) d)
    go true = h
    go false = k

-- ---- a column at release n, and with the CCSID y at release m

abbrev is_graphic : Db2Type → Bool
is_graphic t = named_in (type.Graphic 0 ∷ type.VarGraphic 0 ∷ []) t

module _ (n m : ℕ) where
  pub reference_same : (k : Lob) (s : List ℕ) → lob_reference (conversions_of n) k s ≡ lob_reference (conversions_of m) k s
  unfolding lob_reference
  reference_same blobs s = refl
  reference_same clobs s = refl
  reference_same xmls s = refl

  pub lob_same : (r : Option ℕ) (located : Bool) (k : Lob) (s : List ℕ) → lob_item (conversions_of n) r located k s ≡ lob_item (conversions_of m) r located k s
  unfolding lob_item lob_reference lob_inline
  lob_same (Some w) located blobs s = refl
  lob_same (Some w) located clobs s = refl
  lob_same (Some w) located xmls s = refl
  lob_same None located blobs s = refl
  lob_same None located clobs s = refl
  lob_same None located xmls s = refl

  -- only without bit 8000 is there a text by CCSID
  varying_same : (k : ℕ) (x y : Converted) → (not (bit8000 k) ≡ true → x ≡ y) → (s : List ℕ) → varying_item (conversions_of n) k x s ≡ varying_item (conversions_of m) k y s
  unfolding varying_item header_item
  varying_same k x y h s = go (bit8000 k) h
    where
      go : (b : Bool) → (not b ≡ true → x ≡ y) → cond b (header_item (conversions_of n) s) (text var_char x) ≡ cond b (header_item (conversions_of m) s) (text var_char y)
      go true e = refl
      go false e = ap (text var_char) (e refl)

  bytes_same : (k x y : ℕ) (s : List ℕ) → characters_by n x s ≡ characters_by m y s → lob_bytes_item (conversions_of n) k x s ≡ lob_bytes_item (conversions_of m) k y s
  unfolding lob_bytes_item
  bytes_same k x y s e = rw e

  char_same : (k x y : ℕ) (s : List ℕ) → characters_by n x s ≡ characters_by m y s → lob_char_item (conversions_of n) k x s ≡ lob_char_item (conversions_of m) k y s
  unfolding lob_char_item
  char_same k x y s e = rw e

  module _ (c : ColumnDescriptor) (y : ℕ) where
    -- the texts by CCSID are the same, and so is the unit of graphics
    pub record SameTexts (t : Db2Type) : Type 0 where
      pub of_characters : goes_by_ccsid t ≡ true → (s : List ℕ) → characters_by n c.ccsid s ≡ characters_by m y s
      pub of_graphics : goes_by_ccsid t ≡ true → is_graphic t ≡ true → (s : List ℕ) → graphics_by n c.ccsid s ≡ graphics_by m y s
      pub of_units : is_graphic t ≡ true → eqb c.ccsid 1200 ≡ eqb y 1200

    type_same : (t : Db2Type) → SameTexts t → (s : List ℕ) → type_item (conversions_of n) t c s ≡ type_item (conversions_of m) t (with_ccsid y c) s
    type_same type.SmallInt h s = refl
    type_same type.Integer h s = refl
    type_same type.BigInt h s = refl
    type_same type.Real h s = refl
    type_same type.Double h s = refl
    type_same (type.Decimal precision scale) h s = refl
    type_same (type.DecFloat digits) h s = refl
    type_same (type.Char k) h s = ap (text char) (h.of_characters refl s)
    type_same (type.VarChar k) h s = varying_same k _ _ (λ e. h.of_characters e (drop 2 s)) s
    type_same type.LongVarChar h s = ap (text var_char) (h.of_characters refl (drop 2 s))
    type_same type.Clob h s = lob_same c.extdta_reference_length (eqb c.length 0) clobs s
    type_same (type.Binary k) h s = refl
    type_same (type.VarBinary k) h s = refl
    type_same type.Blob h s = lob_same c.extdta_reference_length (eqb c.length 0) blobs s
    type_same type.BlobLocator h s = reference_same blobs s
    type_same type.Date h s = ap (text date) (h.of_characters refl s)
    type_same type.Time h s = ap (text time) (h.of_characters refl s)
    type_same type.Timestamp h s = ap (text timestamp) (h.of_characters refl s)
    type_same (type.Graphic k) h s = ap (text char) (h.of_graphics refl refl s)
    type_same (type.VarGraphic k) h s = varying_same k _ _ (λ e. h.of_graphics e refl (drop 2 s)) s
    type_same type.DbClob h s = lob_same c.extdta_reference_length (eqb c.length 0) clobs s
    type_same type.ClobLocator h s = reference_same clobs s
    type_same type.DbClobLocator h s = reference_same clobs s
    type_same (type.LobBytes k) h s = bytes_same (low15 k) _ _ s (h.of_characters refl s)
    type_same (type.LobChar k) h s = char_same (low15 k) _ _ s (h.of_characters refl s)
    type_same (type.RowId k) h s = refl
    type_same type.Boolean h s = refl
    type_same type.Xml h s = lob_same c.extdta_reference_length false xmls s
    type_same type.Null h s = refl

    extent_same : (t : Db2Type) → SameTexts t → type_extent t c ≡ type_extent t (with_ccsid y c)
    extent_same type.SmallInt h = refl
    extent_same type.Integer h = refl
    extent_same type.BigInt h = refl
    extent_same type.Real h = refl
    extent_same type.Double h = refl
    extent_same (type.Decimal precision scale) h = refl
    extent_same (type.DecFloat digits) h = refl
    extent_same (type.Char k) h = refl
    extent_same (type.VarChar k) h = refl
    extent_same type.LongVarChar h = refl
    extent_same type.Clob h = refl
    extent_same (type.Binary k) h = refl
    extent_same (type.VarBinary k) h = refl
    extent_same type.Blob h = refl
    extent_same type.BlobLocator h = refl
    extent_same type.Date h = refl
    extent_same type.Time h = refl
    extent_same type.Timestamp h = refl
    extent_same (type.Graphic k) h = rw (h.of_units refl)
    extent_same (type.VarGraphic k) h = rw (h.of_units refl)
    extent_same type.DbClob h = refl
    extent_same type.ClobLocator h = refl
    extent_same type.DbClobLocator h = refl
    extent_same (type.LobBytes k) h = refl
    extent_same (type.LobChar k) h = refl
    extent_same (type.RowId k) h = refl
    extent_same type.Boolean h = refl
    extent_same type.Xml h = refl
    extent_same type.Null h = refl

    column_same : SameTexts c.db2_type → SameColumn (conversions_of n) (conversions_of m) c (with_ccsid y c)
    unfolding item_in
    column_same h = record {
      nullables = refl;
      dec_floats = refl;
      extents = extent_same c.db2_type h;
      items = λ s. type_same c.db2_type h s;
      refer = λ s. refl;
    }

-- ---- release 3 by release 2

or_true : (x y : Bool) → (x || y) ≡ true → y ≡ false → x ≡ true
or_true true y e f = refl
or_true false y e f = sym f ∙ e

-- a CCSID of UTF-16 is none where both tests fail
not_utf16 : (c k : ℕ) → (eqb c 1200 || eqb c 13488) ≡ false → is_utf16 c k ≡ false
unfolding is_utf16
not_utf16 c k e = go (eqb c 1200) (eqb c 13488) e
  where
    go : (x y : Bool) → (x || y) ≡ false → cond (cond x true y) (eqb (k % 2) 0) false ≡ false
    go true y h = absurd (true≢false h)
    go false true h = absurd (true≢false h)
    go false false h = refl

module _ (c : ColumnDescriptor) where
  named_texts : (is_named c.ccsid || not (goes_by_ccsid c.db2_type)) ≡ true → SameTexts 3 2 c c.ccsid c.db2_type
  named_texts h = record {
    of_characters = λ e s. releases.characters_named c.ccsid s (is_named_lem e);
    of_graphics = λ e g s. releases.graphics_named c.ccsid s (ap (λ (x : Bool). is_utf16 c.ccsid (length s) || x) (is_named_lem e) ∙ or_right_true (is_utf16 c.ccsid (length s)));
    of_units = λ g. refl;
  }
    where
      is_named_lem : goes_by_ccsid c.db2_type ≡ true → is_named c.ccsid ≡ true
      is_named_lem e = or_true (is_named c.ccsid) (not (goes_by_ccsid c.db2_type)) h (ap not e)

      or_right_true : (x : Bool) → (x || true) ≡ true
      or_right_true true = refl
      or_right_true false = refl

  other_texts : not (may_be_utf16 c) ≡ true → SameTexts 3 2 c (ccsid_by 3 c.ccsid) c.db2_type
  other_texts h = record {
    of_characters = λ e s. releases.characters3 c.ccsid s;
    of_graphics = λ e g s. releases.graphics3 c.ccsid s ∙ ap (λ (x : Bool). graphics_by 2 (cond x c.ccsid (ccsid_by 3 c.ccsid)) s) (not_utf16 c.ccsid (length s) (plain g));
    of_units = λ g. unit (is_named c.ccsid) (no_1200 (eqb c.ccsid 1200) (eqb c.ccsid 13488) (plain g));
  }
    where
      and_false : (x y : Bool) → not (x && y) ≡ true → x ≡ true → y ≡ false
      and_false true true e f = absurd (true≢false (sym e))
      and_false true false e f = refl
      and_false false y e f = absurd (true≢false (sym f))

      plain : is_graphic c.db2_type ≡ true → (eqb c.ccsid 1200 || eqb c.ccsid 13488) ≡ false
      plain g = and_false (is_graphic c.db2_type) (eqb c.ccsid 1200 || eqb c.ccsid 13488) h g

      no_1200 : (x y : Bool) → (x || y) ≡ false → x ≡ false
      no_1200 true y e = e
      no_1200 false y e = refl

      unit : (x : Bool) → eqb c.ccsid 1200 ≡ false → eqb c.ccsid 1200 ≡ eqb (cond x c.ccsid 37) 1200
      unit true e = refl
      unit false e = e

all_unchanged : (cs : List ColumnDescriptor) → All (λ c. is_named c.ccsid || not (goes_by_ccsid c.db2_type)) cs → AllSame (conversions_of 3) (conversions_of 2) cs cs
all_unchanged [] h = tt
all_unchanged (c ∷ cs) h = (column_same 3 2 c c.ccsid (named_texts c h.0), all_unchanged cs h.1)

all_named : (k : ℕ) (cs : List ColumnDescriptor) → All (λ c. not (may_be_utf16 c)) (take k cs)
    → AllSame (conversions_of 3) (conversions_of 2) (take k cs) (take k (map (λ c. with_ccsid (ccsid_by 3 c.ccsid) c) cs))
all_named zero cs h = tt
all_named (suc k) [] h = tt
all_named (suc k) (c ∷ cs) h = (column_same 3 2 c (ccsid_by 3 c.ccsid) (other_texts c h.0), all_named k cs h.1)

pub row_releases : RowReleases
unfolding row_answer row_text
row_releases = record {
  two = λ columns s d. (refl, refl);
  unchanged = λ columns h s d. same_answers (conversions_of 3) (conversions_of 2) columns columns refl (all_unchanged (covered columns) h) s d;
  as_named = λ columns h s d. same_answers (conversions_of 3) (conversions_of 2) columns (named_columns columns) refl (all_named columns.count columns.columns h) s d;
  others = λ release e columns s d. rw e (refl, refl);
}
