use Rattle.utf.proofs.Utf16Laws.{high_last, high_below, high_above, pair}
use Rattle.utf.proofs.utf16.pair_at.Goals as goal

pub returns-then-s-i : goal.returns-then-s-i
returns-then-s-i c = high_last _ _ c.requires.0 _ c.requires.1.0 c.requires.1.1.0 c.requires.1.1.1 c.if-s-i.true

pub returns-then-v-lt56320 : goal.returns-then-v-lt56320
returns-then-v-lt56320 c = high_below _ _ c.requires.0 _ c.requires.1.0 c.requires.1.1.0 c.requires.1.1.1 c.if-s-i.false _ c.unit_at-v.ensures.0 c.if-v-lt56320.true

pub returns-then-v-gt57343 : goal.returns-then-v-gt57343
returns-then-v-gt57343 c = high_above _ _ c.requires.0 _ c.requires.1.0 c.requires.1.1.0 c.requires.1.1.1 c.if-s-i.false _ c.unit_at-v.ensures.0 c.if-v-gt57343.true

pub returns : goal.returns
returns c = pair _ _ c.requires.0 _ c.requires.1.0 c.requires.1.1.0 c.requires.1.1.1 c.if-s-i.false _ c.unit_at-v.ensures.0 c.if-v-lt56320.false c.if-v-gt57343.false
