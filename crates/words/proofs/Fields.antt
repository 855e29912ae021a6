-- A step to the law of reading (proofs/Columns.antt): each field of a column's two words is the column's own, since no field runs into the next. Assumes nothing.
use Rattle.std.specs.Prelude.{None, Option, Some}
use Prim.Native.Nat.{ℕ, ◌/◌, ◌%◌, ◌≤◌, ◌<◌, ◌^◌}
use mathlib.Core.Path.{◌≡◌}
use mathlib.Core.Bool.{Bool, true, false, cond}
use native.Mathlib.Omega.{arith}
use Rattle.types.specs.declared.ByteOrder.{ByteOrder}
use Rattle.types.specs.declared.ByteOrder.TheVariants.{BigEndian, LittleEndian}
use Rattle.types.specs.declared.Origin.{Origin}
use Rattle.types.specs.declared.Origin.TheVariants.{Sda, UndeclaredLid, DeclaredLid}
use Rattle.types.specs.declared.ColumnDescriptor.{ColumnDescriptor}
use Rattle.words.specs.Words.{pack_type, little_endian_bit, reference_bit, reference_width, origin_number, first_word, second_word}
use Rattle.words.proofs.TypeWords.{Fitting, named}

-- a reference length has 16 bits
abbrev pub WidthFits : Option ℕ → Type 0
WidthFits None = Unit {0}
WidthFits (Some n) = n < 2 ^ 16

-- every number of a column has its bits, as those of the code have: the column's own number has 8
pub record Fits (c : ColumnDescriptor) : Type 0 where
  pub kind : Fitting c.db2_type
  pub code : c.drda_type < 2 ^ 8
  pub index : c.column_index < 2 ^ 8
  pub long : c.length < 2 ^ 16
  pub digits : c.precision < 2 ^ 8
  pub point : c.scale < 2 ^ 8
  pub page : c.ccsid < 2 ^ 16
  pub width : WidthFits c.extdta_reference_length

pub record Fields (c : ColumnDescriptor) : Type 0 where
  pub kind : first_word c % 2 ^ 24 ≡ pack_type c.db2_type
  pub code : first_word c / 2 ^ 24 % 2 ^ 8 ≡ c.drda_type
  pub index : first_word c / 2 ^ 32 % 2 ^ 16 ≡ c.column_index
  pub null : first_word c / 2 ^ 48 % 2 ≡ cond c.nullable 1 0
  pub little : first_word c / 2 ^ 49 % 2 ≡ little_endian_bit c.byte_order
  pub reference : first_word c / 2 ^ 50 % 2 ≡ reference_bit c.extdta_reference_length
  pub origin : first_word c / 2 ^ 51 ≡ origin_number c.origin
  pub long : second_word c % 2 ^ 16 ≡ c.length
  pub digits : second_word c / 2 ^ 16 % 2 ^ 8 ≡ c.precision
  pub point : second_word c / 2 ^ 24 % 2 ^ 8 ≡ c.scale
  pub page : second_word c / 2 ^ 32 % 2 ^ 16 ≡ c.ccsid
  pub width : second_word c / 2 ^ 48 ≡ reference_width c.extdta_reference_length

bit : (b : Bool) → cond b 1 0 ≤ 1
bit true = omega arith
bit false = omega arith

order_bit : (o : ByteOrder) → little_endian_bit o ≤ 1
order_bit BigEndian = omega arith
order_bit LittleEndian = omega arith

reference_bit_lem : (r : Option ℕ) → reference_bit r ≤ 1
reference_bit_lem None = omega arith
reference_bit_lem (Some n) = omega arith

pub origin_small : (o : Origin) → origin_number o ≤ 2
origin_small Sda = omega arith
origin_small UndeclaredLid = omega arith
origin_small DeclaredLid = omega arith

pub fields : (c : ColumnDescriptor) → Fits c → Fields c
fields c f =
    let n = bit c.nullable in
    let o = order_bit c.byte_order in
    let r = reference_bit_lem c.extdta_reference_length in
    let t = named c.db2_type f.kind in
    let k : pack_type c.db2_type < 2 ^ 24 = omega (arith, t.place, t.numbers) in
    record {
      kind = omega arith;
      code = omega arith;
      index = omega arith;
      null = omega arith;
      little = omega arith;
      reference = omega arith;
      origin = omega arith;
      long = omega arith;
      digits = omega arith;
      point = omega arith;
      page = omega arith;
      width = omega arith;
    }
