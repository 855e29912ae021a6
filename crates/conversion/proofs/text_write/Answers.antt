use mathlib.Core.Path.{refl}
use Rattle.conversion.specs.Conversion.{locator_text, row_id_text}
use Rattle.conversion.specs.Picked.{text_in, replaced_in}
use Rattle.conversion.proofs.Arms.{room, wrote, wrote_whole}
use Rattle.conversion.proofs.text_write.Goals as goal

pub copy-requires : goal.copy-requires
unfolding text_in
copy-requires c = room c.in-Plain.is c.args.s.now _ c.requires

pub utf8_lossy_write-requires : goal.utf8_lossy_write-requires
unfolding text_in
utf8_lossy_write-requires c = room c.in-Utf8.is c.args.s.now _ c.requires

pub latin1_write-requires : goal.latin1_write-requires
unfolding text_in
latin1_write-requires c = room c.in-Latin1.is c.args.s.now _ c.requires

pub ebcdic037_write-requires : goal.ebcdic037_write-requires
unfolding text_in
ebcdic037_write-requires c = room c.in-Ebcdic037.is c.args.s.now _ c.requires

pub utf16_lossy_write-requires : goal.utf16_lossy_write-requires
unfolding text_in
utf16_lossy_write-requires c = room c.in-Utf16.is c.args.s.now _ c.requires

pub marked_hex_write-requires : goal.marked_hex_write-requires
unfolding text_in locator_text
marked_hex_write-requires c = room c.in-Locator.is c.args.s.now _ c.requires

pub marked_hex_write-requires-in-RowId : goal.marked_hex_write-requires-in-RowId
unfolding text_in row_id_text
marked_hex_write-requires-in-RowId c = room c.in-RowId.is c.args.s.now _ c.requires

pub returns-in-Plain : goal.returns-in-Plain
unfolding text_in replaced_in
returns-in-Plain c = let all_of = wrote_whole c.in-Plain.is _ _ _ _ c.unreplaced.ensures c.copy.ensures.count c.copy.ensures.bytes refl in record { count = all_of.0; bytes = all_of.1.0; replaced = all_of.1.1 }

pub returns-in-Utf8 : goal.returns-in-Utf8
unfolding text_in replaced_in
returns-in-Utf8 c = let all_of = wrote c.in-Utf8.is _ _ _ _ _ c.utf8_lossy_write.ensures.count c.utf8_lossy_write.ensures.bytes c.utf8_lossy_write.ensures.replaced in record { count = all_of.0; bytes = all_of.1.0; replaced = all_of.1.1 }

pub returns-in-Latin1 : goal.returns-in-Latin1
unfolding text_in replaced_in
returns-in-Latin1 c = let all_of = wrote_whole c.in-Latin1.is _ _ _ _ c.unreplaced-in-Latin1.ensures c.latin1_write.ensures.count c.latin1_write.ensures.bytes refl in record { count = all_of.0; bytes = all_of.1.0; replaced = all_of.1.1 }

pub returns-in-Ebcdic037 : goal.returns-in-Ebcdic037
unfolding text_in replaced_in
returns-in-Ebcdic037 c = let all_of = wrote_whole c.in-Ebcdic037.is _ _ _ _ c.unreplaced-in-Ebcdic037.ensures c.ebcdic037_write.ensures.count c.ebcdic037_write.ensures.bytes refl in record { count = all_of.0; bytes = all_of.1.0; replaced = all_of.1.1 }

pub returns-in-Utf16 : goal.returns-in-Utf16
unfolding text_in replaced_in
returns-in-Utf16 c = let all_of = wrote c.in-Utf16.is _ _ _ _ _ c.utf16_lossy_write.ensures.count c.utf16_lossy_write.ensures.bytes c.utf16_lossy_write.ensures.replaced in record { count = all_of.0; bytes = all_of.1.0; replaced = all_of.1.1 }

pub returns-in-Locator : goal.returns-in-Locator
unfolding text_in locator_text replaced_in
returns-in-Locator c = let all_of = wrote_whole c.in-Locator.is _ _ _ _ c.unreplaced-in-Locator.ensures c.marked_hex_write.ensures.count c.marked_hex_write.ensures.bytes refl in record { count = all_of.0; bytes = all_of.1.0; replaced = all_of.1.1 }

pub returns-in-RowId : goal.returns-in-RowId
unfolding text_in row_id_text replaced_in
returns-in-RowId c = let all_of = wrote_whole c.in-RowId.is _ _ _ _ c.unreplaced-in-RowId.ensures c.marked_hex_write-in-RowId.ensures.count c.marked_hex_write-in-RowId.ensures.bytes refl in record { count = all_of.0; bytes = all_of.1.0; replaced = all_of.1.1 }
