use mathlib.Core.Path.{refl}
use Rattle.conversion.specs.Conversion.{locator_text, row_id_text}
use Rattle.conversion.specs.Picked.{text_in}
use Rattle.conversion.proofs.Arms.{measured}
use Rattle.conversion.proofs.text_measure.Goals as goal

pub returns-in-Plain : goal.returns-in-Plain
unfolding text_in
returns-in-Plain c = measured c.in-Plain.is _ _ refl

pub returns-in-Latin1 : goal.returns-in-Latin1
unfolding text_in
returns-in-Latin1 c = measured c.in-Latin1.is _ _ c.latin1_len-len.ensures

pub returns-in-Ebcdic037 : goal.returns-in-Ebcdic037
unfolding text_in
returns-in-Ebcdic037 c = measured c.in-Ebcdic037.is _ _ c.ebcdic037_len-len.ensures

pub returns-in-Utf16 : goal.returns-in-Utf16
unfolding text_in
returns-in-Utf16 c = measured c.in-Utf16.is _ _ c.utf16_lossy_len-len.ensures

pub returns-in-Locator : goal.returns-in-Locator
unfolding text_in locator_text
returns-in-Locator c = measured c.in-Locator.is _ _ c.marked_hex_len-len.ensures

pub returns-in-RowId : goal.returns-in-RowId
unfolding text_in row_id_text
returns-in-RowId c = measured c.in-RowId.is _ _ c.marked_hex_len-len-in-RowId.ensures
