-- The code's table of base codes: one step of a search through it, and the types that it stands for. Assumes nothing.
use mathlib.Core.Path.{◌≡◌, refl}
use mathlib.Core.Bool.{Bool, true, false, cond}
use mathlib.Core.List.{List, [], ◌∷◌, map}
use Prim.Native.Nat.{ℕ, ◌+◌, ◌<◌}
use native.Mathlib.Numerals.{add-one}
use lib.Dec.{eqb}
use lib.ListN.{length, get_or, drop}
use lib.Seq.{drop-cons}
use borrow.Author.Tests.{eq-eqb, ne_eqb}
use Rattle.types.specs.declared.Db2Type.{Db2Type}
use Rattle.types.specs.declared.Db2Type.TheVariants as type
use Rattle.types.specs.declared.BaseCode.{BaseCode}
use Rattle.types.specs.Types.{listed_or}
use Rattle.types.specs.Kinds.{kind_in, of_kind}

module _ (es : List BaseCode) (i : ℕ) (d : BaseCode) (c : ℕ) (h : i < length es) where
  pub kind_found : (get_or es i d).code ≡ c → kind_in (drop i es) c ≡ (get_or es i d).kind
  unfolding kind_in
  kind_found e = rw (drop-cons es i d h, eq-eqb _ _ e)

  pub kind_next : ((get_or es i d).code ≡ c → ⊥) → kind_in (drop i es) c ≡ kind_in (drop (i + 1) es) c
  unfolding kind_in
  kind_next e = rw (drop-cons es i d h, ne_eqb _ _ e, add-one)

module _ (n p s : ℕ) where
  -- a code with the type of its kind
  abbrev pub typed : BaseCode → ℕ × Db2Type
  typed e = (e.code, of_kind e.kind n p s)

  -- a type found by its kind is found as a type
  pub kinds_types : (es : List BaseCode) (c : ℕ) → of_kind (kind_in es c) n p s ≡ listed_or (type.VarChar n) (map typed es) c
  unfolding kind_in listed_or
  kinds_types [] c = refl
  kinds_types (e ∷ es) c = go (eqb e.code c) (kinds_types es c)
    where
      go : (b : Bool)
          → of_kind (kind_in es c) n p s ≡ listed_or (type.VarChar n) (map typed es) c
          → of_kind (cond b e.kind (kind_in es c)) n p s ≡ cond b (of_kind e.kind n p s) (listed_or (type.VarChar n) (map typed es) c)
      go true h = refl
      go false h = h
