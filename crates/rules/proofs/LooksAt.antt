-- What the row call looks at (specs/LooksAt.antt): for every choice of the conversions, and so of the row call. Assumes nothing.
use Prim.Native.Nat.{ℕ, zero, suc}
use mathlib.Core.Path.{◌≡◌, refl, sym, ap, ◌∙◌}
use mathlib.Core.Bool.{Bool, true, false, cond}
use mathlib.Core.List.{List, [], ◌∷◌}
use lib.ListN.{take}
use native.Mathlib.Omega.{arith}
use lib.Dec.{eqb}
use Rattle.std.proofs.lemmas.Bool.{and_right}
use Rattle.types.specs.declared.Db2Type.{Db2Type}
use Rattle.types.specs.declared.Db2Type.TheVariants as type
use Rattle.types.specs.declared.ColumnDescriptor.{ColumnDescriptor}
use Rattle.types.specs.Names.{named_in}
use Rattle.types.specs.Places.{covered}
use Rattle.rules.specs.Extent.{type_extent, extent_of}
use Rattle.rules.specs.Meaning.{Conversions, type_item, item_in, type_refers}
use Rattle.rules.specs.Row.{answer_with, text_with}
use Rattle.rules.specs.Conversions.{conversions_of, row_answer, row_text}
use Rattle.rules.specs.LooksAt.{length_for, Alike, AllAlike, with_origin, OriginsApart, LooksAt, LooksAtNoOrigin}
use Rattle.rules.proofs.SameAnswers.{SameColumn, AllSame, same_answers}
use Rattle.rules.proofs.Releases.{at_release}

zero_alike : (x y : Bool) → ◌≡◌ {A = ℕ} (cond x 0 1) (cond y 0 1) → x ≡ y
zero_alike true true e = refl
zero_alike true false e = absurd (omega (arith, e))
zero_alike false true e = absurd (omega (arith, e))
zero_alike false false e = refl

module _ (L : Conversions) (c d : ColumnDescriptor) (h : Alike c d) where
  is_zero : ◌≡◌ {A = ℕ} (cond (eqb c.length 0) 0 1) (cond (eqb d.length 0) 0 1) → eqb c.length 0 ≡ eqb d.length 0
  is_zero = zero_alike (eqb c.length 0) (eqb d.length 0)

  -- what a type makes of a column: the extent, the value of the bytes s, and whether that refers to data outside the row
  alike_type : (t : Db2Type) → length_for t c.length ≡ length_for t d.length → (s : List ℕ)
      → (type_extent t c ≡ type_extent t d) × (type_item L t c s ≡ type_item L t d s) × (type_refers t c s ≡ type_refers t d s)
  alike_type type.SmallInt k s = (refl, rw h.same_order, refl)
  alike_type type.Integer k s = (refl, rw h.same_order, refl)
  alike_type type.BigInt k s = (refl, rw h.same_order, refl)
  alike_type type.Real k s = (refl, rw h.same_order, refl)
  alike_type type.Double k s = (refl, rw h.same_order, refl)
  alike_type (type.Decimal precision scale) k s = (refl, refl, refl)
  alike_type (type.DecFloat digits) k s = (refl, refl, refl)
  alike_type (type.Char n) k s = (refl, rw h.same_ccsid, refl)
  alike_type (type.VarChar n) k s = (refl, rw h.same_ccsid, refl)
  alike_type type.LongVarChar k s = (refl, rw h.same_ccsid, refl)
  alike_type type.Clob k s = (rw (h.same_reference, is_zero k), rw (h.same_reference, is_zero k), rw (h.same_reference, is_zero k))
  alike_type (type.Binary n) k s = (refl, refl, refl)
  alike_type (type.VarBinary n) k s = (refl, refl, refl)
  alike_type type.Blob k s = (rw (h.same_reference, is_zero k), rw (h.same_reference, is_zero k), rw (h.same_reference, is_zero k))
  alike_type type.BlobLocator k s = (refl, refl, refl)
  alike_type type.Date k s = (refl, rw h.same_ccsid, refl)
  alike_type type.Time k s = (refl, rw h.same_ccsid, refl)
  alike_type type.Timestamp k s = (rw k, rw h.same_ccsid, refl)
  alike_type (type.Graphic n) k s = (rw (h.same_order, h.same_ccsid), rw h.same_ccsid, refl)
  alike_type (type.VarGraphic n) k s = (rw (h.same_order, h.same_ccsid), rw h.same_ccsid, refl)
  alike_type type.DbClob k s = (rw (h.same_reference, is_zero k), rw (h.same_reference, is_zero k), rw (h.same_reference, is_zero k))
  alike_type type.ClobLocator k s = (refl, refl, refl)
  alike_type type.DbClobLocator k s = (refl, refl, refl)
  alike_type (type.LobBytes n) k s = (refl, rw h.same_ccsid, refl)
  alike_type (type.LobChar n) k s = (refl, rw h.same_ccsid, refl)
  alike_type (type.RowId n) k s = (refl, refl, refl)
  alike_type type.Boolean k s = (rw k, refl, refl)
  alike_type type.Xml k s = (rw h.same_reference, rw h.same_reference, rw (h.same_reference, and_right (eqb c.length 0) false refl, and_right (eqb d.length 0) false refl))
  alike_type type.Null k s = (refl, refl, refl)

  alike_length : length_for c.db2_type c.length ≡ length_for c.db2_type d.length
  alike_length = h.same_length ∙ ap (λ (t : Db2Type). length_for t d.length) (sym h.same_type)

  alike_extent : extent_of c ≡ extent_of d
  alike_extent = (alike_type c.db2_type alike_length []).0 ∙ ap (λ (t : Db2Type). type_extent t d) h.same_type

  alike_item : (s : List ℕ) → item_in L c s ≡ item_in L d s
  unfolding item_in
  alike_item s = (alike_type c.db2_type alike_length s).1 ∙ ap (λ (t : Db2Type). type_item L t d s) h.same_type

  alike_refers : (s : List ℕ) → type_refers c.db2_type c s ≡ type_refers d.db2_type d s
  alike_refers s = (alike_type c.db2_type alike_length s).2 ∙ ap (λ (t : Db2Type). type_refers t d s) h.same_type

  alike_same : SameColumn L L c d
  alike_same = record {
    nullables = h.same_nullable;
    dec_floats = ap (λ (t : Db2Type). named_in (type.DecFloat 0 ∷ []) t) h.same_type;
    extents = alike_extent;
    items = alike_item;
    refer = alike_refers;
  }

all_same : (L : Conversions) (cs ds : List ColumnDescriptor) → AllAlike cs ds → AllSame L L cs ds
all_same L [] [] h = tt
all_same L [] (d ∷ ds) h = h
all_same L (c ∷ cs) [] h = h
all_same L (c ∷ cs) (d ∷ ds) h = (alike_same L c d h.0, all_same L cs ds h.1)

-- ---- lists that differ in origins alone

apart_alike : (c d : ColumnDescriptor) → with_origin d.origin c ≡ d → Alike c d
apart_alike c d e =
    record {
      same_type = ap (λ (x : ColumnDescriptor). x.db2_type) e;
      same_nullable = ap (λ (x : ColumnDescriptor). x.nullable) e;
      same_length = ap (λ (x : ColumnDescriptor). length_for x.db2_type x.length) e;
      same_ccsid = ap (λ (x : ColumnDescriptor). x.ccsid) e;
      same_order = ap (λ (x : ColumnDescriptor). x.byte_order) e;
      same_reference = ap (λ (x : ColumnDescriptor). x.extdta_reference_length) e;
    }

all_alike : (n : ℕ) (cs ds : List ColumnDescriptor) → OriginsApart cs ds → AllAlike (take n cs) (take n ds)
all_alike zero cs ds h = tt
all_alike (suc n) [] [] h = tt
all_alike (suc n) [] (d ∷ ds) h = h
all_alike (suc n) (c ∷ cs) [] h = h
all_alike (suc n) (c ∷ cs) (d ∷ ds) h = (apart_alike c d h.0, all_alike n cs ds h.1)

-- for every choice of the conversions
pub looks_at_with : (L : Conversions) → LooksAt (answer_with L) (text_with L)
looks_at_with L a b e h = same_answers L L a b e (all_same L (covered a) (covered b) h)

pub looks_at_no_origin_with : (L : Conversions) → LooksAtNoOrigin (answer_with L) (text_with L)
looks_at_no_origin_with L a b e h = looks_at_with L a b e (rw e (all_alike b.count a.columns b.columns h))

-- of the row call
pub looks_at : (release : ℕ) → LooksAt (row_answer release) (row_text release)
looks_at release = at_release release LooksAt (looks_at_with (conversions_of release)) (λ a b e h s d. (refl, refl))

pub looks_at_no_origin : (release : ℕ) → LooksAtNoOrigin (row_answer release) (row_text release)
looks_at_no_origin release = at_release release LooksAtNoOrigin (looks_at_no_origin_with (conversions_of release)) (λ a b e h s d. (refl, refl))
