use lib.Ieee.{binary64}
use Rattle.numbers.specs.Number.{double_of}
use Rattle.numbers.proofs.Laws.{a_nan, no_nan}
use Rattle.numbers.proofs.double_of.Goals as goal

pub float_from_bits-result : goal.float_from_bits-result
float_from_bits-result c = rw (no_nan binary64 _ c.if-n-gt9218868437227405312.false) tt

pub returns-then-n-gt9218868437227405312 : goal.returns-then-n-gt9218868437227405312
unfolding double_of
returns-then-n-gt9218868437227405312 c = rw (a_nan binary64 _ c.if-n-gt9218868437227405312.true)

pub returns-else-n-gt9218868437227405312 : goal.returns-else-n-gt9218868437227405312
unfolding double_of
returns-else-n-gt9218868437227405312 c = rw (no_nan binary64 _ c.if-n-gt9218868437227405312.false)
