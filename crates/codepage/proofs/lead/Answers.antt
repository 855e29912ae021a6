use Rattle.unicode_standard.proofs.ScalarBytes.{utf8_one, utf8_two}
use Rattle.codepage.proofs.lead.Goals as goal

pub returns-then-v-lt128 : goal.returns-then-v-lt128
returns-then-v-lt128 c = rw (utf8_one c.args.v c.if-v-lt128.true)

pub returns-else-v-lt128 : goal.returns-else-v-lt128
returns-else-v-lt128 c = rw (utf8_two c.args.v c.if-v-lt128.false c.requires)
