-- The table of edges holds: one computed fact. Its letters are A to P. Assumes nothing.
use mathlib.Core.Path.{refl}
use Rattle.edges.specs.Ascii.{ascii}
use Rattle.edges.specs.Edges.{found_of, edges}
use Rattle.types.specs.Types.{base_types, listed_or, from_drda_type}
use Rattle.types.specs.Places.{filled, blank_value, column_list}
use Rattle.column.specs.Column.{field16, reference_length, sda_numbers, sda_type, sda_column}
use Rattle.column.specs.Group.{entry_of, no_entry, first_entry, group_type, undeclared_column, declared_column, lid_column}
use Rattle.triplets.specs.Triplets.{reading_of, reading}
use Rattle.triplets.specs.Descriptors.{last_of, pending_after, no_entries, declare, environment_after, sda_columns, outer_sda, lid_columns, group_columns, triplet_columns, columns_from, columns_of}
use Rattle.qrydsc.specs.Qrydsc.{numbered, list_answer, description}
use Rattle.numbers.specs.Number.{unsigned}
use Rattle.packed.specs.Packed.{nibbles, sign_text, digit_text, trimmed, fraction, decimal_text}
use Rattle.decimal.specs.Decimal.{decimal_answer, decimal_buffer}
use Rattle.buffer.specs.Buffer.{text_answer, text_buffer}
use Rattle.conversion.specs.Conversion.{character_text, character_text3, locator_text}
use Rattle.conversion.specs.Hex.{hex_digit, hex_text}
use Rattle.unicode_standard.specs.Unicode.{utf8, piece_text, pieces_text}
use Rattle.codepage.specs.CodePage.{table037, code_point037, byte_pieces, byte_text}
use Rattle.rules.specs.Extent.{is_reference, says_header, lob_need, need}
use Rattle.rules.specs.Meaning.{all_zero, lob_empty, header_item, lob_reference, lob_item, varying_item, item_in, is_empty_lob, refers_in}
use Rattle.rules.specs.Walk.{skip_of, nullable_need, column_need, cell_of, cons_cell, cell_short, walk, walk_body}
use Rattle.rules.specs.Value.{bytes_at, value_bytes}
use Rattle.rules.specs.Row.{start_of, value_of, item_text, item_replaced, cell_item, cell_value, row_values, row_texts, row_replaced, any_dec_float, walk_decision, body_decision, row_decision, answer_of, text_after}
use Rattle.rules.specs.Conversions.{row_answer, row_text}
use Rattle.edges.specs.Edges.{EdgesHold, LettersInOrder}

pub edges_hold : EdgesHold 2 × EdgesHold 3
unfolding ascii found_of edges base_types listed_or from_drda_type filled blank_value column_list field16 reference_length sda_numbers sda_type sda_column entry_of no_entry first_entry group_type undeclared_column declared_column lid_column reading_of reading last_of pending_after no_entries declare environment_after sda_columns outer_sda lid_columns group_columns triplet_columns columns_from columns_of numbered list_answer description unsigned nibbles sign_text digit_text trimmed fraction decimal_text decimal_answer decimal_buffer text_answer text_buffer character_text character_text3 locator_text hex_digit hex_text utf8 piece_text pieces_text table037 code_point037 byte_pieces byte_text is_reference says_header lob_need need all_zero lob_empty header_item lob_reference lob_item varying_item item_in is_empty_lob refers_in skip_of nullable_need column_need cell_of cons_cell cell_short walk walk_body bytes_at value_bytes start_of value_of item_text item_replaced cell_item cell_value row_values row_texts row_replaced any_dec_float walk_decision body_decision row_decision answer_of text_after row_answer row_text
edges_hold = (refl, refl)

pub letters_in_order : LettersInOrder
unfolding ascii edges
letters_in_order = refl
