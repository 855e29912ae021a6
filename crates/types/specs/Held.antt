-- What a value holds: a number by its bits, or a place. One table of the sorts of value, for a value's bytes and for its words. Assumes nothing.
use Rattle.std.specs.Prelude.{ℕ, cond, Float}
use Rattle.std.specs.Float.{Format, binary32, binary64}
use Rattle.std.specs.Float.Ieee.{is_nan, to_bits}
use Rattle.std.specs.Int.{w64}
use mir.Val.{of_z}
use Rattle.types.specs.declared.Place.{Place}
use Rattle.types.specs.declared.Db2Value.{Db2Value}

pub data Held : Type 0 where
  bits : ℕ → Held
  -- a part of the row, and of the text buffer
  in_row in_text : Place → Held

-- the bits of a float that is no NaN. A NaN has a variant of its own, which holds its bits: the 0 stands for no value of a row
unfoldable pub float_bits : Format → Float → ℕ
float_bits f x = cond (is_nan x) 0 (to_bits f x)

-- a whole number has the bits of its two's complement of 64 bits (mir.Val.of_z), a Boolean 1 and 0, Null 0
abbrev pub held : Db2Value → Held
held Db2Value.Null = bits 0
held (Db2Value.SmallInt z) = bits (of_z w64 z)
held (Db2Value.Integer z) = bits (of_z w64 z)
held (Db2Value.BigInt z) = bits (of_z w64 z)
held (Db2Value.Real x) = bits (float_bits binary32 x)
held (Db2Value.RealNan n) = bits n
held (Db2Value.Double x) = bits (float_bits binary64 x)
held (Db2Value.DoubleNan n) = bits n
held (Db2Value.Decimal p) = in_text p
held (Db2Value.Char p) = in_text p
held (Db2Value.VarChar p) = in_text p
held (Db2Value.Binary p) = in_row p
held (Db2Value.Blob p) = in_row p
held (Db2Value.Clob p) = in_text p
held (Db2Value.RowId p) = in_text p
held (Db2Value.Date p) = in_text p
held (Db2Value.Time p) = in_text p
held (Db2Value.Timestamp p) = in_text p
held (Db2Value.Boolean b) = bits (cond b 1 0)
held (Db2Value.Xml p) = in_text p
