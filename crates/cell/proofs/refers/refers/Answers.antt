use mathlib.Core.Path.{◌∙◌}
use mathlib.Core.Logic.{⊎_elim}
use Rattle.rules.specs.Meaning.{blobs, clobs}
use Rattle.cell.proofs.ItemLaws.{need_by}
use Rattle.cell.proofs.ReferLaws.{refers_by_lem, locator_refers}
use Rattle.cell.proofs.ReferLaws.{plain_in, plain_type}
use Rattle.cell.proofs.refers.refers.Goals as goal

pub returns-in-BlobLocator : goal.returns-in-BlobLocator
returns-in-BlobLocator c = λ release.
    ⊎_elim (λ e. locator_refers release c.args.column c.args.bytes.now blobs (need_by c.args.column c.args.bytes.now e c.requires) ∙ refers_by_lem release c.args.column c.args.bytes.now e)
    (⊎_elim (λ e. locator_refers release c.args.column c.args.bytes.now clobs (need_by c.args.column c.args.bytes.now e c.requires) ∙ refers_by_lem release c.args.column c.args.bytes.now e) (λ e. locator_refers release c.args.column c.args.bytes.now clobs (need_by c.args.column c.args.bytes.now e c.requires) ∙ refers_by_lem release c.args.column c.args.bytes.now e))
    c.in-BlobLocator.is

pub returns-in_default : goal.returns-in_default
returns-in_default c = λ release. plain_in release c.args.column c.args.bytes.now
    (plain_type c.args.column.db2_type c.args.column c.args.bytes.now c.in_default.not-VarChar c.in_default.not-Clob c.in_default.not-Blob c.in_default.not-BlobLocator c.in_default.not-VarGraphic c.in_default.not-DbClob c.in_default.not-ClobLocator c.in_default.not-DbClobLocator c.in_default.not-LobBytes c.in_default.not-LobChar c.in_default.not-Xml)
