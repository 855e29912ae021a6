use mathlib.Core.Path.{refl}
use Rattle.std.proofs.Common.{rules}
use Rattle.std.proofs.lemmas.List.Recursion.{is_count_by}
use Rattle.std.specs.Char.{is_ascii_hexdigit}
use Rattle.rules.specs.Extent.{hex_digits}
use Rattle.cell.proofs.ExtentLaws.{hex_step}
use Rattle.cell.proofs.extents.hex_digits.Goals as goal

pub returns : goal.returns
unfolding hex_digits
returns c = search (rules, is_count_by hex_digits is_ascii_hexdigit refl hex_step)
