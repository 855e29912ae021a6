-- Demand 3 is not empty: case B meets every hypothesis, with a longer input, a shorter beginning, the bytes used alone, and another text buffer.
-- Assumes nothing.
use Prim.Native.Nat.{ℕ}
use mathlib.Core.Path.{◌≡◌, refl}
use mathlib.Core.Bool.{true}
use mathlib.Core.List.{List, [], ◌∷◌}
use native.Mathlib.Omega.{arith}
use lib.ListN.{take, replicate}
use Rattle.refusal.specs.Refusal.{accepted}
use Rattle.types.specs.declared.Db2Type.TheVariants as type
use Rattle.types.specs.declared.Columns.{Columns}
use Rattle.types.specs.Places.{filled, blank_value, column_list}
use Rattle.packed.specs.Packed.{nibbles, sign_text, digit_text, trimmed, fraction, decimal_text}
use Rattle.rules.specs.Extent.{need}
use Rattle.rules.specs.OwnEnd.{carries_own_end, all_carry_own_end}
use Rattle.rules.specs.Meaning.{item_in}
use Rattle.rules.specs.Walk.{skip_of, nullable_need, column_need, cell_of, cons_cell, walk, walk_body}
use Rattle.rules.specs.Value.{texts_together}
use Rattle.rules.specs.Row.{covered, refused_row, value_of, item_text, cell_item, cell_value, row_values, row_texts, any_dec_float, walk_decision, body_decision, row_decision, answer_of}
use Rattle.rules.specs.Conversions.{row_answer, row_text}
use Rattle.rules.specs.Demand3.{AcceptedRow, LargeEnough, Same}
use Rattle.rules.specs.Exceptions.{column_that}
use Rattle.rules.proofs.Demand3.{demand3}

unfoldable pub columns_b : Columns
columns_b = column_list (column_that true type.SmallInt 2 ∷ column_that true (type.Decimal 5 2) 3 ∷ [])

-- case B's row; one byte more; another that begins with it
abbrev row_b : List ℕ
row_b = 0x00 ∷ 0x00 ∷ 0x2A ∷ 0x00 ∷ 0x12 ∷ 0x34 ∷ 0x5C ∷ 0xEE ∷ []

abbrev long_b : List ℕ
long_b = 0x00 ∷ 0x00 ∷ 0x2A ∷ 0x00 ∷ 0x12 ∷ 0x34 ∷ 0x5C ∷ 0xFF ∷ 0xFF ∷ 0x41 ∷ []

-- a text buffer that is just large enough, and another
abbrev buffer_b : List ℕ
buffer_b = replicate 6 0x00

abbrev other_b : List ℕ
other_b = replicate 9 0x20

own : all_carry_own_end (covered columns_b) ≡ true
unfolding columns_b column_list filled all_carry_own_end carries_own_end
own = refl

-- what case B answers, as far as the hypotheses ask: accepted, seven bytes used, six bytes of text
answers : ((row_answer 2 columns_b row_b buffer_b).outcome ≡ accepted) × ((row_answer 2 columns_b row_b buffer_b).used ≡ 7) × (texts_together (row_answer 2 columns_b row_b buffer_b).places ≡ 6)
unfolding columns_b column_list filled blank_value row_answer answer_of row_decision body_decision walk_decision walk_body walk skip_of column_need nullable_need need cell_of cons_cell any_dec_float row_values row_texts cell_value cell_item item_in value_of item_text texts_together decimal_text sign_text digit_text nibbles trimmed fraction
answers = (refl, refl, refl)

accepted_row_lem : AcceptedRow (row_answer 2) (row_text 2) columns_b row_b buffer_b
accepted_row_lem = record { two = omega arith; accepts = answers.0; one = omega (arith, answers.1) }

large : LargeEnough (row_answer 2 columns_b row_b buffer_b) other_b
large = omega (arith, answers.2)

-- the longer input, the first six bytes, and the seven bytes alone, each with the other buffer
pub longer : Same (row_answer 2) (row_text 2) columns_b long_b other_b row_b buffer_b
longer = (demand3 2).longer columns_b own row_b buffer_b accepted_row_lem long_b other_b (omega arith) (rw answers.1) large

pub shorter : (expected : ℕ) × (actual : ℕ) × (row_answer 2 columns_b (take 6 row_b) other_b ≡ refused_row 8 (expected ∷ actual ∷ [])) × (row_text 2 columns_b (take 6 row_b) other_b ≡ other_b)
shorter = (demand3 2).shorter columns_b own row_b buffer_b accepted_row_lem 6 other_b (omega arith) (omega (arith, answers.1))

pub alone : Same (row_answer 2) (row_text 2) columns_b (take (row_answer 2 columns_b row_b buffer_b).used row_b) other_b row_b buffer_b
alone = (demand3 2).alone columns_b row_b buffer_b answers.0 other_b large
