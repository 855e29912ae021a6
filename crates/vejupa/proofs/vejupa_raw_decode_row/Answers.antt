use mathlib.Core.Path.{sym, ◌∙◌}
use Rattle.vejupa.proofs.RowCall.{unknown, too_many, too_few_lem, no_column, too_long, dec_float, accepted_row_lem, too_short_lem, text_short}
use Rattle.vejupa.proofs.vejupa_raw_decode_row.Goals as goal

pub returns-then-not-is_release : goal.returns-then-not-is_release
returns-then-not-is_release c = unknown _ _ _ _ _ (sym c.is_release.ensures ∙ c.if-not-is_release.true)

pub returns-then-count-gt-MAX_COLUMNS : goal.returns-then-count-gt-MAX_COLUMNS
returns-then-count-gt-MAX_COLUMNS c = too_many _ _ _ _ _ (sym c.is_release.ensures ∙ c.if-not-is_release.false) c.if-count-gt-MAX_COLUMNS.true

pub returns-then-value_words-count : goal.returns-then-value_words-count
returns-then-value_words-count c = too_few_lem _ _ _ _ _ (sym c.is_release.ensures ∙ c.if-not-is_release.false) c.if-count-gt-MAX_COLUMNS.false c.if-value_words-count.true

pub returns-in_default : goal.returns-in_default
returns-in_default c = no_column _ _ _ _ _ (sym c.is_release.ensures ∙ c.if-not-is_release.false) c.if-count-gt-MAX_COLUMNS.false c.if-value_words-count.false (sym c.in_default.is ∙ c.check_columns.ensures)

pub returns-then-data-gt-INPUT_LIMIT : goal.returns-then-data-gt-INPUT_LIMIT
returns-then-data-gt-INPUT_LIMIT c = too_long _ _ _ _ _ (sym c.is_release.ensures ∙ c.if-not-is_release.false) c.if-count-gt-MAX_COLUMNS.false c.if-value_words-count.false _ (sym c.in-Some.is ∙ c.check_columns.ensures) c.if-data-gt-INPUT_LIMIT.true

pub returns-then-dec_float : goal.returns-then-dec_float
returns-then-dec_float c = dec_float _ _ _ _ _ (sym c.is_release.ensures ∙ c.if-not-is_release.false) c.if-count-gt-MAX_COLUMNS.false c.if-value_words-count.false _ (sym c.in-Some.is ∙ c.check_columns.ensures) c.if-data-gt-INPUT_LIMIT.false c.if-dec_float.true

pub returns-in-Ok : goal.returns-in-Ok
returns-in-Ok c = accepted_row_lem _ _ _ _ _ (sym c.is_release.ensures ∙ c.if-not-is_release.false) c.if-count-gt-MAX_COLUMNS.false c.if-value_words-count.false _ (sym c.in-Some.is ∙ c.check_columns.ensures) c.if-data-gt-INPUT_LIMIT.false c.if-dec_float.false _ _ c.decode_row.ensures.values c.decode_row.ensures.text c.in-Ok.t (rw c.in-Ok.is at c.decode_row.ensures.outcome)

pub returns-in-Err-TooShort : goal.returns-in-Err-TooShort
returns-in-Err-TooShort c = too_short_lem _ _ _ _ _ (sym c.is_release.ensures ∙ c.if-not-is_release.false) c.if-count-gt-MAX_COLUMNS.false c.if-value_words-count.false _ (sym c.in-Some.is ∙ c.check_columns.ensures) c.if-data-gt-INPUT_LIMIT.false c.if-dec_float.false _ _ c.decode_row.ensures.values c.decode_row.ensures.text _ _ (rw (c.in-Err-TooShort.is, c.in-Err-TooShort.field-0-is) at c.decode_row.ensures.outcome)

pub returns-in-Err-TextTooShort : goal.returns-in-Err-TextTooShort
returns-in-Err-TextTooShort c = text_short _ _ _ _ _ (sym c.is_release.ensures ∙ c.if-not-is_release.false) c.if-count-gt-MAX_COLUMNS.false c.if-value_words-count.false _ (sym c.in-Some.is ∙ c.check_columns.ensures) c.if-data-gt-INPUT_LIMIT.false c.if-dec_float.false _ _ c.decode_row.ensures.values c.decode_row.ensures.text _ (rw (c.in-Err-TextTooShort.is, c.in-Err-TextTooShort.field-0-is) at c.decode_row.ensures.outcome)
