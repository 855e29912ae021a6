-- A type's word is read as that type, and a word that is read as a type is that type's word. Assumes nothing.
use Rattle.std.specs.Bool.{then_some}
use Rattle.std.specs.Prelude.{None, Some}
use Prim.Native.Nat.{ℕ, zero, suc, ◌+◌, ◌*◌, ◌/◌, ◌%◌, ◌≤◌, ◌<◌}
use mathlib.Core.Path.{◌≡◌, refl, sym, ◌∙◌}
use mathlib.Core.Bool.{Bool, true, false, cond, ◌&&◌}
use native.Mathlib.Omega.{arith}
use lib.Dec.{ltb, eqb}
use borrow.Author.Tests.{lt-ltb, le-ltb, eq-eqb, eqb-true}
use Rattle.types.specs.Names.{name_of, own_numbers}
use Rattle.types.specs.declared.Db2Type.{Db2Type}
use Rattle.types.specs.declared.Db2Type.TheVariants as type
use Rattle.words.specs.Words.{pack_type, type_named, read_type}

-- x is none of the numbers below n: what the last arm of a match on 0, 1, .. is told
abbrev pub NoneBelow : ℕ → ℕ → Type 0
NoneBelow x zero = Unit {0}
NoneBelow x (suc n) = NoneBelow x n × (x ≡ n → ⊥)

pub none_below : (x n : ℕ) → NoneBelow x n → n ≤ x
none_below x zero h = omega arith
none_below x (suc n) h = let k = none_below x n h.0 in omega (arith, h.1)

pub read_large : (w : ℕ) → 16777216 ≤ w → None ≡ read_type w
unfolding read_type
read_large w h = rw (le-ltb w 16777216 h)

pub then_some_is : {A : Type 0} (b : Bool) (x : A) → then_some b x ≡ cond b (Some x) None
then_some_is true x = refl
then_some_is false x = refl

-- a word below 2^24, and the type t that its bits name, of which r is the word
pub read_small : (w r : ℕ) (t : Db2Type) → w < 16777216 → t ≡ type_named (w % 256) (w / 256) → r ≡ pack_type t → then_some (eqb r w) t ≡ read_type w
unfolding read_type
read_small w r t h e p = rw (lt-ltb w 16777216 h, ← e, p) (then_some_is (eqb (pack_type t) w) t)

-- the numbers that a type holds have their widths
abbrev pub Fitting : Db2Type → Type 0
Fitting type.SmallInt = Unit {0}
Fitting type.Integer = Unit {0}
Fitting type.BigInt = Unit {0}
Fitting type.Real = Unit {0}
Fitting type.Double = Unit {0}
Fitting (type.Decimal p s) = (p < 256) × (s < 256)
Fitting (type.DecFloat d) = d < 256
Fitting (type.Char n) = n < 65536
Fitting (type.VarChar n) = n < 65536
Fitting type.LongVarChar = Unit {0}
Fitting type.Clob = Unit {0}
Fitting (type.Binary n) = n < 65536
Fitting (type.VarBinary n) = n < 65536
Fitting type.Blob = Unit {0}
Fitting type.BlobLocator = Unit {0}
Fitting type.Date = Unit {0}
Fitting type.Time = Unit {0}
Fitting type.Timestamp = Unit {0}
Fitting (type.Graphic n) = n < 65536
Fitting (type.VarGraphic n) = n < 65536
Fitting type.DbClob = Unit {0}
Fitting type.ClobLocator = Unit {0}
Fitting type.DbClobLocator = Unit {0}
Fitting (type.LobBytes n) = n < 65536
Fitting (type.LobChar n) = n < 65536
Fitting (type.RowId n) = n < 65536
Fitting type.Boolean = Unit {0}
Fitting type.Xml = Unit {0}
Fitting type.Null = Unit {0}

-- its place and its numbers have their widths, and they name it
pub record Named (t : Db2Type) : Type 0 where
  pub place : name_of t < 256
  pub numbers : own_numbers t < 65536
  pub back : type_named (name_of t) (own_numbers t) ≡ t

pub named : (t : Db2Type) → Fitting t → Named t
unfolding type_named
named type.SmallInt h = record { place = omega arith; numbers = omega arith; back = refl }
named type.Integer h = record { place = omega arith; numbers = omega arith; back = refl }
named type.BigInt h = record { place = omega arith; numbers = omega arith; back = refl }
named type.Real h = record { place = omega arith; numbers = omega arith; back = refl }
named type.Double h = record { place = omega arith; numbers = omega arith; back = refl }
named (type.Decimal p s) h =
    let x : (p + s * 256) % 256 ≡ p = omega (arith, h.0) in
    let y : (p + s * 256) / 256 ≡ s = omega (arith, h.0) in
    record { place = omega arith; numbers = omega (arith, h.0, h.1); back = rw (x, y) }
named (type.DecFloat d) h = let x : d % 256 ≡ d = omega arith in record { place = omega arith; numbers = omega arith; back = rw x }
named (type.Char n) h = record { place = omega arith; numbers = omega arith; back = refl }
named (type.VarChar n) h = record { place = omega arith; numbers = omega arith; back = refl }
named type.LongVarChar h = record { place = omega arith; numbers = omega arith; back = refl }
named type.Clob h = record { place = omega arith; numbers = omega arith; back = refl }
named (type.Binary n) h = record { place = omega arith; numbers = omega arith; back = refl }
named (type.VarBinary n) h = record { place = omega arith; numbers = omega arith; back = refl }
named type.Blob h = record { place = omega arith; numbers = omega arith; back = refl }
named type.BlobLocator h = record { place = omega arith; numbers = omega arith; back = refl }
named type.Date h = record { place = omega arith; numbers = omega arith; back = refl }
named type.Time h = record { place = omega arith; numbers = omega arith; back = refl }
named type.Timestamp h = record { place = omega arith; numbers = omega arith; back = refl }
named (type.Graphic n) h = record { place = omega arith; numbers = omega arith; back = refl }
named (type.VarGraphic n) h = record { place = omega arith; numbers = omega arith; back = refl }
named type.DbClob h = record { place = omega arith; numbers = omega arith; back = refl }
named type.ClobLocator h = record { place = omega arith; numbers = omega arith; back = refl }
named type.DbClobLocator h = record { place = omega arith; numbers = omega arith; back = refl }
named (type.LobBytes n) h = record { place = omega arith; numbers = omega arith; back = refl }
named (type.LobChar n) h = record { place = omega arith; numbers = omega arith; back = refl }
named (type.RowId n) h = record { place = omega arith; numbers = omega arith; back = refl }
named type.Boolean h = record { place = omega arith; numbers = omega arith; back = refl }
named type.Xml h = record { place = omega arith; numbers = omega arith; back = refl }
named type.Null h = record { place = omega arith; numbers = omega arith; back = refl }

pub reads_back : (t : Db2Type) → Fitting t → read_type (pack_type t) ≡ Some t
reads_back t f =
    let n = named t f in
    let a : ℕ = name_of t in
    let b : ℕ = own_numbers t in
    let x : (a + b * 256) % 256 ≡ a = omega (arith, n.place) in
    let y : (a + b * 256) / 256 ≡ b = omega (arith, n.place) in
    sym (read_small (a + b * 256) (a + b * 256) t (omega (arith, n.place, n.numbers)) (rw (x, y) (sym n.back)) refl) ∙ rw (eq-eqb (a + b * 256) (a + b * 256) refl)

pub packs_back : (w : ℕ) (t : Db2Type) → read_type w ≡ Some t → pack_type t ≡ w
unfolding read_type
packs_back w t = go (ltb w 16777216) (eqb (pack_type u) w) refl
  where
    u : Db2Type
    u = type_named (w % 256) (w / 256)

    go : (a b : Bool) → eqb (pack_type u) w ≡ b → cond (a && b) (Some u) None ≡ Some t → pack_type t ≡ w
    go true true q e = let k : u ≡ t = cc in rw (← k) (eqb-true (pack_type u) w q)
    go true false q e = let z : ◌≡◌ {A = ℕ} 0 1 = cc in omega arith
    go false b q e = let z : ◌≡◌ {A = ℕ} 0 1 = cc in omega arith
