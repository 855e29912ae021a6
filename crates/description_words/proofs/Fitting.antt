-- Every number of a description's columns has its bits. So the words of these columns say them (words' `reads_columns`). Assumes nothing.
use Rattle.std.specs.Prelude.{Option, None, Some}
use Prim.Native.Nat.{ℕ, ◌+◌, ◌≤◌, ◌<◌}
use mathlib.Core.Bool.{Bool, true, false, cond}
use mathlib.Core.List.{List, [], ◌∷◌}
use native.Mathlib.Omega.{arith}
use lib.Dec.{leb, ltb, eqb}
use lib.ListN.{length, get_or}
use Rattle.unicode_standard.specs.Laws.{AreBytes}
use Rattle.types.specs.Types.{base_types, listed_or, base_of, nullable_bit, drda_type, from_drda_type}
use Rattle.types.specs.FixedLength.{packed_length}
use Rattle.types.specs.Names.{bit8000, low15, named_in}
use Rattle.types.specs.declared.Db2Type.{Db2Type}
use Rattle.types.specs.declared.Db2Type.TheVariants as type
use Rattle.types.specs.declared.DrdaType.{DrdaType}
use Rattle.types.specs.declared.ByteOrder.{ByteOrder}
use Rattle.types.specs.declared.ByteOrder.TheVariants.{BigEndian, LittleEndian}
use Rattle.types.specs.declared.Origin.{Origin}
use Rattle.types.specs.declared.Origin.TheVariants.{Sda, UndeclaredLid, DeclaredLid}
use Rattle.types.specs.declared.ColumnDescriptor.{ColumnDescriptor}
use Rattle.column.specs.declared.Numbers.{Numbers}
use Rattle.column.specs.declared.EnvEntry.{EnvEntry}
use Rattle.column.specs.Column.{field16, reference_length, numbers_of, unnumbered, sda_numbers, sda_type, sda_column}
use Rattle.column.specs.Group.{entry_of, no_entry, group_type, group_ccsid, undeclared_column, declared_column, lid_column}
use Rattle.triplets.specs.Descriptors.{columns_of}
use Rattle.triplets.proofs.Every.{Every, Describes, every_column}
use Rattle.numbers.specs.Number.{unsigned}
use Rattle.qrydsc.specs.Qrydsc.{numbered}
use Rattle.words.proofs.TypeWords.{Fitting}
use Rattle.words.proofs.Fields.{WidthFits, Fits}
use Rattle.words.proofs.Columns.{AllFit}

-- ---- bytes

number_fits : (a b : ℕ) → a < 256 → b < 256 → unsigned BigEndian (a ∷ b ∷ []) < 65536
unfolding unsigned
number_fits a b ha hb = omega arith

field_fits : (d : List ℕ) → AreBytes d → (at : ℕ) → field16 d at < 65536
unfolding field16
field_fits d h at = go (leb (at + 2) (length d))
  where
    go : (b : Bool) → cond b (unsigned BigEndian (get_or d at 0 ∷ get_or d (at + 1) 0 ∷ [])) 0 < 65536
    go true = number_fits _ _ (h at) (h (at + 1))
    go false = omega arith

-- ---- types

abbrev AllFitting : List (ℕ × Db2Type) → Type 0
AllFitting [] = Unit {0}
AllFitting (e ∷ es) = Fitting e.1 × AllFitting es

listed_fits : (t : Db2Type) (es : List (ℕ × Db2Type)) (c : ℕ) → Fitting t → AllFitting es → Fitting (listed_or t es c)
unfolding listed_or
listed_fits t [] c h hs = h
listed_fits t (e ∷ es) c h hs = go (eqb e.0 c) (listed_fits t es c h hs.1)
  where
    go : (b : Bool) → Fitting (listed_or t es c) → Fitting (cond b e.1 (listed_or t es c))
    go true r = hs.0
    go false r = r

digits_fit : (b : Bool) → cond b 34 16 < 256
digits_fit true = omega arith
digits_fit false = omega arith

abbrev TypeFits : DrdaType → Type 0
TypeFits r = Fitting r.db2_type

module _ (c n p s : ℕ) (hn : n < 65536) (hp : p < 256) (hs : s < 256) where
  base_fits : AllFitting (base_types n p s)
  unfolding base_types
  base_fits =
      (tt, (tt, (tt, ((hp, hs), (tt, (tt, (tt, (tt, (tt, (hn, (digits_fit (ltb 8 n), (tt, (tt, (tt, (hn, (hn, (tt, (hn, (hn, (hn, (hn, (tt, (tt, (tt, (tt, (tt, tt))))))))))))))))))))))))))

  drda_fits : Fitting (from_drda_type c n p s).db2_type
  unfolding from_drda_type
  drda_fits = go (eqb c 0x50) (eqb c 0x51)
    where
      go : (a b : Bool) → TypeFits (cond a (drda_type (type.LobBytes n) false) (cond b (drda_type (type.LobChar n) false) (drda_type (listed_or (type.VarChar n) (base_types n p s) (base_of c)) (nullable_bit c))))
      go true b = hn
      go false true = hn
      go false false = listed_fits (type.VarChar n) (base_types n p s) (base_of c) hn base_fits

group_type_fits : (l n : ℕ) → n < 65536 → Fitting (group_type l n)
unfolding group_type
group_type_fits l n h =
    listed_fits (from_drda_type l n 0 0).db2_type
    ((0x0A, type.Double) ∷ (0x0C, type.Real) ∷ (0x36, type.Graphic n) ∷ (0x38, type.VarGraphic n) ∷ (0x3A, type.VarGraphic n) ∷ (0xCE, type.Clob) ∷ [])
    (base_of l)
    (drda_fits l n 0 0 h (omega arith) (omega arith))
    (tt, (tt, (h, (h, (h, (tt, tt))))))

-- ---- columns

reference_fits : (c n : ℕ) → WidthFits (reference_length c n)
unfolding reference_length
reference_fits c n = go (leb 0xC8 c) (leb c 0xCF) (bit8000 n)
  where
    go : (x y z : Bool) → WidthFits (cond x (cond y (cond z (Some (low15 n)) None) None) None)
    go true true true = omega arith
    go true true false = tt
    go true false z = tt
    go false y z = tt

abbrev NumbersFit : Numbers → Type 0
NumbersFit m = (m.precision < 256) × ((m.scale < 256) × (m.ccsid < 65536))

column_fits : (c n : ℕ) (m : Numbers) (nullable : Bool) (t : Db2Type) (order : ByteOrder) (o : Origin) → c < 256 → n < 65536 → NumbersFit m → Fitting t → Fits (unnumbered c n m nullable t order o)
column_fits c n m nullable t order o hc hn hm ht =
    record { kind = ht; code = hc; index = omega arith; long = hn; digits = hm.0; point = hm.1.0; page = hm.1.1; width = reference_fits c n }

sda_numbers_fit : (d : List ℕ) → AreBytes d → NumbersFit (sda_numbers d)
unfolding sda_numbers
sda_numbers_fit d h = go (eqb (base_of (get_or d 0 0)) 0x0C) (leb 5 (length d))
  where
    go : (x y : Bool) → NumbersFit (cond x (cond y (numbers_of (get_or d 3 0) (get_or d 4 0) (field16 d 5)) (numbers_of 0 0 (field16 d 5))) (numbers_of 0 0 (field16 d 3)))
    go true true = (h 3, (h 4, field_fits d h 5))
    go true false = (omega arith, (omega arith, field_fits d h 5))
    go false y = (omega arith, (omega arith, field_fits d h 3))

sda_type_fits : (c n : ℕ) (m : Numbers) → n < 65536 → NumbersFit m → Fitting (sda_type c n m)
unfolding sda_type
sda_type_fits c n m h hm = go (eqb m.ccsid 0) (eqb (base_of c) 0x30) (eqb (base_of c) 0x32)
  where
    go : (x y z : Bool) → Fitting (cond x (cond y (type.Binary n) (cond z (type.VarBinary n) (from_drda_type c n m.precision m.scale).db2_type)) (from_drda_type c n m.precision m.scale).db2_type)
    go true true z = h
    go true false true = h
    go true false false = drda_fits c n m.precision m.scale h hm.0 hm.1.0
    go false y z = drda_fits c n m.precision m.scale h hm.0 hm.1.0

sda_fits : (d : List ℕ) → AreBytes d → Fits (sda_column d)
unfolding sda_column
sda_fits d h =
    let c = get_or d 0 0 in
    let n = field16 d 1 in
    let m = sda_numbers d in
    let hm = sda_numbers_fit d h in
    column_fits c n m (nullable_bit c) (sda_type c n m) LittleEndian Sda (h 0) (field_fits d h 1) hm (sda_type_fits c n m (field_fits d h 1) hm)

abbrev EntryFits : Option EnvEntry → Type 0
EntryFits None = Unit {0}
EntryFits (Some e) = (e.drda_type < 256) × (e.ccsid < 65536)

ccsid_fits : (b : Bool) → cond b 1208 0 < 65536
ccsid_fits true = omega arith
ccsid_fits false = omega arith

undeclared_fits : (l a b : ℕ) → l < 256 → a < 256 → b < 256 → Fits (undeclared_column l a b)
unfolding undeclared_column
undeclared_fits l a b hl ha hb = go (eqb (base_of l) 0x0E)
  where
    n : ℕ
    n = unsigned BigEndian (a ∷ b ∷ [])

    wide : n < 65536
    wide = number_fits a b ha hb

    go : (x : Bool) → Fits (cond x (unnumbered l (packed_length a) (numbers_of a b 0) (nullable_bit l) (type.Decimal a b) BigEndian UndeclaredLid) (unnumbered l n (numbers_of 0 0 (group_ccsid (group_type l n))) (nullable_bit l) (group_type l n) BigEndian UndeclaredLid))
    go true = column_fits l (packed_length a) (numbers_of a b 0) (nullable_bit l) (type.Decimal a b) BigEndian UndeclaredLid hl (omega arith) (ha, (hb, omega arith)) (ha, hb)
    go false =
        column_fits l n (numbers_of 0 0 (group_ccsid (group_type l n))) (nullable_bit l) (group_type l n) BigEndian UndeclaredLid hl wide
        (omega arith, (omega arith, ccsid_fits (named_in (type.Char 0 ∷ type.VarChar 0 ∷ type.LongVarChar ∷ type.Clob ∷ type.ClobLocator ∷ type.DbClobLocator ∷ type.LobChar 0 ∷ type.Date ∷ type.Time ∷ type.Timestamp ∷ type.Xml ∷ []) (group_type l n))))
        (group_type_fits l n wide)

declared_fits : (e : EnvEntry) (a b : ℕ) → EntryFits (Some e) → a < 256 → b < 256 → Fits (declared_column e a b)
unfolding declared_column
declared_fits e a b he ha hb =
    let c = e.drda_type in
    let n = unsigned BigEndian (a ∷ b ∷ []) in
    let r = from_drda_type c n 0 0 in
    let wide : n < 65536 = number_fits a b ha hb in
    column_fits c n (numbers_of 0 0 e.ccsid) r.nullable r.db2_type BigEndian DeclaredLid he.0 wide (omega arith, (omega arith, he.1)) (drda_fits c n 0 0 wide (omega arith) (omega arith))

lid_fits : (e : Option EnvEntry) (l a b : ℕ) → EntryFits e → l < 256 → a < 256 → b < 256 → Fits (lid_column e l a b)
unfolding lid_column
lid_fits None l a b he hl ha hb = undeclared_fits l a b hl ha hb
lid_fits (Some e) l a b he hl ha hb = declared_fits e a b he ha hb

-- ---- the columns of a description, numbered

numbered_fit : (k : ℕ) (cs : List ColumnDescriptor) → k + length cs ≤ 256 → Every Fits cs → AllFit (numbered k cs)
unfolding numbered
numbered_fit k [] l h = tt
numbered_fit k (c ∷ cs) l h =
    let f = h.0 in
    (record { kind = f.kind; code = f.code; index = omega arith; long = f.long; digits = f.digits; point = f.point; page = f.page; width = f.width }, numbered_fit (k + 1) cs (omega arith) h.1)

fitting : Describes Fits EntryFits (λ (b : ℕ). b < 256)
unfolding no_entry entry_of
fitting =
    record {
      of_zero = omega arith;
      of_no_entry = tt;
      of_entry = λ mdd d h k. (h, field_fits d k 4);
      of_sda = sda_fits;
      of_lid = lid_fits;
    }

pub description_fits : (s : List ℕ) → AreBytes s → length (columns_of s) ≤ 256 → AllFit (numbered 0 (columns_of s))
description_fits s h l = numbered_fit 0 (columns_of s) (omega arith) (every_column Fits EntryFits (λ (b : ℕ). b < 256) fitting s h)
