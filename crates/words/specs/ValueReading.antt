-- The value that three words say: what specs/Values.antt packs, unpacked. Any three words say a value: a sort that there is none of says Null, and bits
-- that no value of the sort has are not looked at. Assumes nothing.
use Rattle.std.specs.Prelude.{ℕ, ◌/◌, ◌%◌, ◌^◌, List, [], ◌∷◌, eqb, get_or}
use Rattle.std.specs.Int.{w16, w32, w64}
use Rattle.std.proofs.Common.{to_z}
use Rattle.types.specs.declared.Place.{Place}
use Rattle.types.specs.declared.Db2Value.{Db2Value}
use Rattle.types.specs.declared.ValuePlace.{ValuePlace}
use Rattle.numbers.specs.Number.{number_value, real_of, double_of}

-- the values in the order of their variants, with n for the number and p for the place that they hold. A Real that has the bits of a NaN is a
-- RealNan, as a row's is
abbrev pub values_with : ℕ → Place → List Db2Value
values_with n p =
    Db2Value.Null
    ∷ Db2Value.SmallInt (to_z w16 (n % 2 ^ 16))
    ∷ Db2Value.Integer (to_z w32 (n % 2 ^ 32))
    ∷ Db2Value.BigInt (to_z w64 n)
    ∷ number_value (real_of (n % 2 ^ 32))
    ∷ Db2Value.RealNan (n % 2 ^ 32)
    ∷ number_value (double_of n)
    ∷ Db2Value.DoubleNan n
    ∷ Db2Value.Decimal p
    ∷ Db2Value.Char p
    ∷ Db2Value.VarChar p
    ∷ Db2Value.Binary p
    ∷ Db2Value.Blob p
    ∷ Db2Value.Clob p
    ∷ Db2Value.RowId p
    ∷ Db2Value.Date p
    ∷ Db2Value.Time p
    ∷ Db2Value.Timestamp p
    ∷ Db2Value.Boolean (eqb n 1)
    ∷ Db2Value.Xml p
    ∷ []

-- the value of the variant that has this place in the enum, by the second and the third word
unfoldable pub variant_named : ℕ → ℕ → ℕ → Db2Value
variant_named sort n k = get_or (values_with n (record { start = n; len = k })) sort Db2Value.Null

-- the value that three words name, and whether it is external
unfoldable pub value_named : ℕ → ℕ → ℕ → ValuePlace
value_named kind n k = record { value = variant_named (kind % 2 ^ 8) n k; external = eqb (kind / 2 ^ 8 % 2) 1 }
