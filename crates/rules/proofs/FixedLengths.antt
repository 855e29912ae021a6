-- Where `fixed_length` and the row call go by the same number of bytes (the rules' Y3): for every type of a fixed length but Graphic, Timestamp, Boolean and
-- DecFloat, and LobBytes and LobChar, which may be shorter references. Assumes nothing.
use Prim.Native.Nat.{ℕ}
use mathlib.Core.Bool.{false, true≢false}
use mathlib.Core.List.{List, [], ◌∷◌}
use Rattle.std.specs.Prelude.{Option, Some, None}
use mathlib.Core.Path.{◌≡◌, refl}
use Rattle.types.specs.FixedLength.{packed_length, fixed_length}
use Rattle.types.specs.Names.{named_in}
use Rattle.types.specs.declared.Db2Type.{Db2Type}
use Rattle.types.specs.declared.Db2Type.TheVariants as type
use Rattle.types.specs.declared.ColumnDescriptor.{ColumnDescriptor}
use Rattle.refusal.specs.Refusal.{most_bytes}
use Rattle.rules.specs.declared.Extent.{Extent}
use Rattle.rules.specs.declared.Extent.TheVariants.{Fixed}
use Rattle.rules.specs.Extent.{type_extent, extent_of}

abbrev others : List Db2Type
others = type.Graphic 0 ∷ type.Timestamp ∷ type.Boolean ∷ type.DecFloat 0 ∷ type.LobBytes 0 ∷ type.LobChar 0 ∷ []

-- a fixed length is the extent's; of a type whose length varies nothing is said
abbrev Agrees : Option ℕ → Extent → Type 0
Agrees (Some n) e = e ≡ Fixed n
Agrees None e = Unit {0}

type_agrees : (t : Db2Type) (c : ColumnDescriptor) → named_in others t ≡ false → Agrees (fixed_length t) (type_extent t c)
type_agrees type.SmallInt c h = refl
type_agrees type.Integer c h = refl
type_agrees type.BigInt c h = refl
type_agrees type.Real c h = refl
type_agrees type.Double c h = refl
type_agrees (type.Decimal precision scale) c h = refl
type_agrees (type.DecFloat digits) c h = absurd (true≢false h)
type_agrees (type.Char n) c h = refl
type_agrees (type.VarChar n) c h = tt
type_agrees type.LongVarChar c h = tt
type_agrees type.Clob c h = tt
type_agrees (type.Binary n) c h = refl
type_agrees (type.VarBinary n) c h = tt
type_agrees type.Blob c h = tt
type_agrees type.BlobLocator c h = refl
type_agrees type.Date c h = refl
type_agrees type.Time c h = refl
type_agrees type.Timestamp c h = absurd (true≢false h)
type_agrees (type.Graphic n) c h = absurd (true≢false h)
type_agrees (type.VarGraphic n) c h = tt
type_agrees type.DbClob c h = tt
type_agrees type.ClobLocator c h = refl
type_agrees type.DbClobLocator c h = refl
type_agrees (type.LobBytes n) c h = absurd (true≢false h)
type_agrees (type.LobChar n) c h = absurd (true≢false h)
type_agrees (type.RowId n) c h = refl
type_agrees type.Boolean c h = absurd (true≢false h)
type_agrees type.Xml c h = tt
type_agrees type.Null c h = tt

pub fixed_length_agrees : (c : ColumnDescriptor) → named_in others c.db2_type ≡ false → Agrees (fixed_length c.db2_type) (extent_of c)
fixed_length_agrees c h = type_agrees c.db2_type c h

-- no column has more bytes than a packed decimal called alone may have
pub widest : packed_length 255 ≡ most_bytes
widest = refl
