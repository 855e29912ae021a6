-- vejupa_raw_value_bytes and value_bytes are one call: of the words of any value they show the same bytes. Assumes nothing.
use Prim.Native.Nat.{ℕ, ◌%◌, ◌≤◌, ◌^◌}
use mathlib.Core.Path.{◌≡◌, refl}
use mathlib.Core.List.{List, ◌++◌}
use native.Mathlib.Omega.{arith}
use borrow.Author.Tests.{le-ltb}
use lib.Ieee.{binary32, binary64}
use lib.ListN.{length}
use Rattle.types.specs.declared.Db2Value.{Db2Value}
use Rattle.types.specs.declared.ValuePlace.{ValuePlace}
use Rattle.types.specs.Held.{float_bits}
use Rattle.numbers.specs.Number.{real_of, double_of}
use Rattle.rules.specs.Value.{value_bytes}
use Rattle.rules.proofs.Answers.{number_held}
use Rattle.words.specs.Values.{sort_word, number_word, length_word}
use Rattle.words.specs.ValueReading.{variant_named, value_named}
use Rattle.words.proofs.Packed.{three}
use Rattle.words.proofs.Values.{sort_named}
use Rattle.vejupa.specs.Rows.{words_bytes}

-- what the words of a value name has the value's bytes, also where its number is out of range: a number has none
variant_bytes : (v : Db2Value) (s d : List ℕ) → value_bytes (variant_named (sort_word v) (number_word v) (length_word v)) s d ≡ value_bytes v s d
unfolding value_bytes variant_named
variant_bytes Db2Value.Null s d = refl
variant_bytes (Db2Value.SmallInt z) s d = refl
variant_bytes (Db2Value.Integer z) s d = refl
variant_bytes (Db2Value.BigInt z) s d = refl
variant_bytes (Db2Value.Real x) s d = rw (number_held (real_of (float_bits binary32 x % 2 ^ 32))).1
variant_bytes (Db2Value.RealNan n) s d = refl
variant_bytes (Db2Value.Double x) s d = rw (number_held (double_of (float_bits binary64 x))).1
variant_bytes (Db2Value.DoubleNan n) s d = refl
variant_bytes (Db2Value.Decimal p) s d = refl
variant_bytes (Db2Value.Char p) s d = refl
variant_bytes (Db2Value.VarChar p) s d = refl
variant_bytes (Db2Value.Binary p) s d = refl
variant_bytes (Db2Value.Blob p) s d = refl
variant_bytes (Db2Value.Clob p) s d = refl
variant_bytes (Db2Value.RowId p) s d = refl
variant_bytes (Db2Value.Date p) s d = refl
variant_bytes (Db2Value.Time p) s d = refl
variant_bytes (Db2Value.Timestamp p) s d = refl
variant_bytes (Db2Value.Boolean b) s d = refl
variant_bytes (Db2Value.Xml p) s d = refl

-- the words of a value, and any words behind them
pub three_bytes : (v : ValuePlace) (rest s d : List ℕ) → words_bytes (three v ++ rest) s d ≡ value_bytes v.value s d
unfolding words_bytes value_named
three_bytes v rest s d =
    let enough : 3 ≤ length (three v ++ rest) = omega arith in
    rw (le-ltb (length (three v ++ rest)) 3 enough, sort_named v) (variant_bytes v.value s d)
