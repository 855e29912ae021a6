use Rattle.conversion.proofs.Picks.{utf8_picked, locator_picked, row_id_picked, characters_by_lem, graphics_by_lem}
use Rattle.piece.proofs.items.conversion_of.Goals as goal

-- `piece::items::conversion_of` meets its contract: in each arm the encoding is known. Assumes nothing.
pub returns-in-Characters : goal.returns-in-Characters
returns-in-Characters c = rw c.in-Characters.is (characters_by_lem _ c.in-Characters.ccsid c.args.s.now c.character_conversion.ensures)

pub returns-in-Graphics : goal.returns-in-Graphics
returns-in-Graphics c = rw c.in-Graphics.is (graphics_by_lem _ c.in-Graphics.ccsid c.args.s.now c.graphic_conversion.ensures)

pub returns-in-Utf8 : goal.returns-in-Utf8
returns-in-Utf8 c = rw c.in-Utf8.is (utf8_picked _)

pub returns-in-Locator : goal.returns-in-Locator
returns-in-Locator c = rw c.in-Locator.is (locator_picked _)

pub returns-in-RowId : goal.returns-in-RowId
returns-in-RowId c = rw c.in-RowId.is (row_id_picked _)
