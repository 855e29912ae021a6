use mathlib.Core.Path.{refl}
use Rattle.numbers.specs.Number.{small_int_in, integer_in, big_int_in, real_in, double_in}
use Rattle.cell.proofs.NumberLaws.{number_need, number_is}
use Rattle.cell.proofs.decode_column_value.Goals as goal

pub returns-in-SmallInt : goal.returns-in-SmallInt
returns-in-SmallInt c = λ release. (number_is c.args.column c.in-SmallInt.is 2 refl release c.args.rest.now (small_int_in c.args.column.byte_order) (λ l. refl) (λ l. refl) _ c.small_int.ensures, number_need c.args.column c.in-SmallInt.is 2 refl c.args.rest.now)

pub returns-in-Integer : goal.returns-in-Integer
returns-in-Integer c = λ release. (number_is c.args.column c.in-Integer.is 4 refl release c.args.rest.now (integer_in c.args.column.byte_order) (λ l. refl) (λ l. refl) _ c.integer.ensures, number_need c.args.column c.in-Integer.is 4 refl c.args.rest.now)

pub returns-in-BigInt : goal.returns-in-BigInt
returns-in-BigInt c = λ release. (number_is c.args.column c.in-BigInt.is 8 refl release c.args.rest.now (big_int_in c.args.column.byte_order) (λ l. refl) (λ l. refl) _ c.big_int.ensures, number_need c.args.column c.in-BigInt.is 8 refl c.args.rest.now)

pub returns-in-Real : goal.returns-in-Real
returns-in-Real c = λ release. (number_is c.args.column c.in-Real.is 4 refl release c.args.rest.now (real_in c.args.column.byte_order) (λ l. refl) (λ l. refl) _ c.real.ensures, number_need c.args.column c.in-Real.is 4 refl c.args.rest.now)

pub returns-in-Double : goal.returns-in-Double
returns-in-Double c = λ release. (number_is c.args.column c.in-Double.is 8 refl release c.args.rest.now (double_in c.args.column.byte_order) (λ l. refl) (λ l. refl) _ c.double.ensures, number_need c.args.column c.in-Double.is 8 refl c.args.rest.now)
