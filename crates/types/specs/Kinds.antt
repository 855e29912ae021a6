-- For inner functions; no public promise rests on it. The code's table of base codes: a kind beside each code. Assumes nothing.
use Rattle.std.specs.Prelude.{ℕ, cond, List, [], ◌∷◌, ltb, eqb}
use Rattle.types.specs.declared.Db2Type.{Db2Type}
use Rattle.types.specs.declared.Db2Type.TheVariants as type
use Rattle.types.specs.declared.Kind.{Kind}
use Rattle.types.specs.declared.Kind.TheVariants as kind
use Rattle.types.specs.declared.BaseCode.{BaseCode}

-- the kind beside the first entry with the code, or VarChar
unfoldable pub kind_in : List BaseCode → ℕ → Kind
kind_in [] c = kind.VarChar
kind_in (e ∷ es) c = cond (eqb e.code c) e.kind (kind_in es c)

-- the type of a kind in a column of length n, precision p and scale s
abbrev pub of_kind : Kind → ℕ → ℕ → ℕ → Db2Type
of_kind (kind.Plain t) n p s = t
of_kind kind.Decimal n p s = type.Decimal p s
of_kind kind.DecFloat n p s = type.DecFloat (cond (ltb 8 n) 34 16)
of_kind kind.RowId n p s = type.RowId n
of_kind kind.Char n p s = type.Char n
of_kind kind.VarChar n p s = type.VarChar n
of_kind kind.Graphic n p s = type.Graphic n
of_kind kind.VarGraphic n p s = type.VarGraphic n
of_kind kind.Binary n p s = type.Binary n
of_kind kind.VarBinary n p s = type.VarBinary n
