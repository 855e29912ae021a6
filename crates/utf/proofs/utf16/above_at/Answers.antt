use native.Mathlib.Omega.{arith}
use Rattle.utf.proofs.Utf16Laws.{low_alone, above_surrogates}
use Rattle.utf.proofs.utf16.above_at.Goals as goal

pub returns-in-56320-to-57343 : goal.returns-in-56320-to-57343
returns-in-56320-to-57343 c = low_alone _ _ c.requires.0 c.args.u c.requires.1.0 (omega arith) (omega arith)

pub returns-in_default : goal.returns-in_default
returns-in_default c = above_surrogates _ _ c.requires.0 c.args.u c.requires.1.0 (omega (arith, c.requires.1.1.0)) c.requires.1.1.1

pub returns-in_default-2 : goal.returns-in_default-2
returns-in_default-2 c = above_surrogates _ _ c.requires.0 c.args.u c.requires.1.0 (omega (arith, c.requires.1.1.0)) c.requires.1.1.1
