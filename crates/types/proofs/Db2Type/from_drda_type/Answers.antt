use borrow.Author.Rules.{rules}
use borrow.Author.Tests.{ne_eqb}
use Rattle.types.specs.Types.{from_drda_type, base_types}
use Rattle.types.proofs.KindLaws.{kinds_types}
use Rattle.types.proofs.Db2Type.from_drda_type.Goals as goal

-- `types::Db2Type::from_drda_type` meets its contract: each way out rewrites with the tests before it, and the table of kinds is the
-- table of types. Assumes nothing.
pub returns-in-80 : goal.returns-in-80
unfolding from_drda_type
returns-in-80 c = rw c.in-80.is

pub returns-in-81 : goal.returns-in-81
unfolding from_drda_type
returns-in-81 c = rw c.in-81.is

pub returns-in_default : goal.returns-in_default
unfolding from_drda_type base_types
returns-in_default c =
    let a = c.args in
    rw (
      ne_eqb a.type_code 80 (search rules),
      ne_eqb a.type_code 81 (search rules),
      c.of_kind.ensures,
      c.kind_in-kind.ensures,
      kinds_types a.length a.precision a.scale,
    )
