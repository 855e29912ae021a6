use lib.Ieee.{binary32}
use Rattle.numbers.specs.Number.{real_of}
use Rattle.numbers.proofs.Laws.{a_nan, no_nan}
use Rattle.numbers.proofs.real_of.Goals as goal

pub float_from_bits-result : goal.float_from_bits-result
float_from_bits-result c = rw (no_nan binary32 _ c.if-n-gt2139095040.false) tt

pub returns-then-n-gt2139095040 : goal.returns-then-n-gt2139095040
unfolding real_of
returns-then-n-gt2139095040 c = rw (a_nan binary32 _ c.if-n-gt2139095040.true)

pub returns-else-n-gt2139095040 : goal.returns-else-n-gt2139095040
unfolding real_of
returns-else-n-gt2139095040 c = rw (no_nan binary32 _ c.if-n-gt2139095040.false)
