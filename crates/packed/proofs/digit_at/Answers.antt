use Rattle.packed.proofs.Nibbles.{even, odd}
use Rattle.packed.proofs.digit_at.Goals as goal

pub returns-then-k-eq0 : goal.returns-then-k-eq0
returns-then-k-eq0 c = even _ _ c.requires c.if-k-eq0.true

pub returns-else-k-eq0 : goal.returns-else-k-eq0
returns-else-k-eq0 c = odd _ _ c.requires c.if-k-eq0.false
