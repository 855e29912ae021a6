use Prim.Native.Nat.{◌+◌, ◌-◌, ◌<◌, ◌≤◌}
use native.Mathlib.Omega.{arith}
use borrow.Author.Tests.{lt-ltb, le-ltb}
use Rattle.conversion.specs.Hex.{hex_digit}
use Rattle.answers.proofs.lines.hex_value.Goals as goal

pub returns-in-48-to-57 : goal.returns-in-48-to-57
unfolding hex_digit
returns-in-48-to-57 c = let small : c.args.b - 48 < 10 = omega arith in (omega arith, rw (lt-ltb _ _ small) (omega arith))

pub returns-in-65-to-70 : goal.returns-in-65-to-70
unfolding hex_digit
returns-in-65-to-70 c = let large : 10 ≤ c.args.b - 65 + 10 = omega arith in (omega arith, rw (le-ltb _ _ large) (omega arith))
