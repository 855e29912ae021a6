use mathlib.Core.Path.{refl, ap, ◌∙◌}
use Rattle.std.proofs.Common.{rules}
use lib.ListN.{take}
use Rattle.types.specs.declared.ByteOrder.{ByteOrder}
use Rattle.numbers.specs.Number.{number_value, small_int_in, integer_in, big_int_in, real_in, double_in}
use Rattle.cell.proofs.NumberLaws.{number_need, number_is}
use Rattle.words.specs.Reading.{column_named}
use Rattle.row_words.proofs.Typed.{order_is, small_int_is, integer_is, big_int_is, real_is, double_is}
use Rattle.row_words.proofs.values.decode_number.Goals as goal

pub returns-in-0 : goal.returns-in-0
returns-in-0 c = record { value = λ release second. number_is (column_named c.args.words.first second) (small_int_is c.args.words.first second c.in-0.is) 2 refl release c.args.rest.now (small_int_in (column_named c.args.words.first second).byte_order) (λ l. refl) (λ l. refl) _ (c.small_int.ensures ∙ ap (λ (o : ByteOrder). number_value (small_int_in o (take 2 c.args.rest.now))) (order_is c.args.words.first second c.byte_order-order.ensures)); used = λ second. number_need (column_named c.args.words.first second) (small_int_is c.args.words.first second c.in-0.is) 2 refl c.args.rest.now }

pub returns-in-1 : goal.returns-in-1
returns-in-1 c = record { value = λ release second. number_is (column_named c.args.words.first second) (integer_is c.args.words.first second c.in-1.is) 4 refl release c.args.rest.now (integer_in (column_named c.args.words.first second).byte_order) (λ l. refl) (λ l. refl) _ (c.integer.ensures ∙ ap (λ (o : ByteOrder). number_value (integer_in o (take 4 c.args.rest.now))) (order_is c.args.words.first second c.byte_order-order.ensures)); used = λ second. number_need (column_named c.args.words.first second) (integer_is c.args.words.first second c.in-1.is) 4 refl c.args.rest.now }

pub returns-in-2 : goal.returns-in-2
returns-in-2 c = record { value = λ release second. number_is (column_named c.args.words.first second) (big_int_is c.args.words.first second c.in-2.is) 8 refl release c.args.rest.now (big_int_in (column_named c.args.words.first second).byte_order) (λ l. refl) (λ l. refl) _ (c.big_int.ensures ∙ ap (λ (o : ByteOrder). number_value (big_int_in o (take 8 c.args.rest.now))) (order_is c.args.words.first second c.byte_order-order.ensures)); used = λ second. number_need (column_named c.args.words.first second) (big_int_is c.args.words.first second c.in-2.is) 8 refl c.args.rest.now }

pub returns-in-3 : goal.returns-in-3
returns-in-3 c = record { value = λ release second. number_is (column_named c.args.words.first second) (real_is c.args.words.first second c.in-3.is) 4 refl release c.args.rest.now (real_in (column_named c.args.words.first second).byte_order) (λ l. refl) (λ l. refl) _ (c.real.ensures ∙ ap (λ (o : ByteOrder). number_value (real_in o (take 4 c.args.rest.now))) (order_is c.args.words.first second c.byte_order-order.ensures)); used = λ second. number_need (column_named c.args.words.first second) (real_is c.args.words.first second c.in-3.is) 4 refl c.args.rest.now }

pub returns-in_default : goal.returns-in_default
returns-in_default c = record { value = λ release second. number_is (column_named c.args.words.first second) (double_is c.args.words.first second (search rules)) 8 refl release c.args.rest.now (double_in (column_named c.args.words.first second).byte_order) (λ l. refl) (λ l. refl) _ (c.double.ensures ∙ ap (λ (o : ByteOrder). number_value (double_in o (take 8 c.args.rest.now))) (order_is c.args.words.first second c.byte_order-order.ensures)); used = λ second. number_need (column_named c.args.words.first second) (double_is c.args.words.first second (search rules)) 8 refl c.args.rest.now }
