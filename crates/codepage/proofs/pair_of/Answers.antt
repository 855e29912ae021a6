use borrow.Author.Tests.{lt-ltb, le-ltb}
use Rattle.codepage.specs.Pairs.{utf8_pair}
use Rattle.codepage.proofs.pair_of.Goals as goal

-- `codepage::pair_of` meets its contract: one byte, or two. Assumes nothing.
pub returns-then-v-lt128 : goal.returns-then-v-lt128
unfolding utf8_pair
returns-then-v-lt128 c = rw (lt-ltb _ _ c.if-v-lt128.true)

pub returns : goal.returns
unfolding utf8_pair
returns c = rw (le-ltb _ _ c.if-v-lt128.false)
