use native.Mathlib.Omega.{arith}
use Rattle.std.proofs.Common.{rules}
use Rattle.description_words.proofs.Counting.{sda_one, sda_empty, sda_other}
use Rattle.description_words.proofs.count_sda.Goals as goal

-- `description_words::count_sda` meets its contract: a law for each way out. Whether there is data is left to the search. Assumes nothing.
pub returns-in-112 : goal.returns-in-112
returns-in-112 c = sda_one c.args.body.now _ c.in-112.is (search rules)

pub returns-in_default : goal.returns-in_default
returns-in_default c = sda_empty c.args.body.now _ (search rules)

pub returns-in_default-2 : goal.returns-in_default-2
returns-in_default-2 c = sda_other c.args.body.now _ (λ h. omega arith)
