use native.Mathlib.Omega.{arith}
use Rattle.utf.proofs.Utf16Laws.{high_last, high_below, high_above, replaced_length, one_byte, two_bytes, three_bytes, low_or_above, pair_length}
use Rattle.utf.proofs.utf16.unit_len.Goals as goal

pub returns-in-0-to-127 : goal.returns-in-0-to-127
returns-in-0-to-127 c = (omega arith, one_byte _ _ c.requires _ c.unit_at.ensures.0 (omega arith))

pub returns-in-128-to-2047 : goal.returns-in-128-to-2047
returns-in-128-to-2047 c = (omega arith, two_bytes _ _ c.requires _ c.unit_at.ensures.0 (omega arith) (omega arith))

pub returns-in_default : goal.returns-in_default
returns-in_default c = (omega arith, three_bytes _ _ c.requires _ c.unit_at.ensures.0 (omega arith) (omega arith))

pub returns-in_default-2 : goal.returns-in_default-2
returns-in_default-2 c = (omega arith, low_or_above _ _ c.requires _ c.unit_at.ensures.0 (omega arith) (omega arith))

pub returns-then-s-i : goal.returns-then-s-i
returns-then-s-i c = (omega arith, replaced_length _ _ (high_last _ _ c.requires _ c.unit_at.ensures.0 (omega arith) (omega arith) c.if-s-i.true))

pub returns-in_default-unit_at : goal.returns-in_default-unit_at
returns-in_default-unit_at c = (omega arith, replaced_length _ _ (high_below _ _ c.requires _ c.unit_at.ensures.0 (omega arith) (omega arith) c.if-s-i.false _ c.unit_at-in-55296-to-56319.ensures.0 (omega arith)))

pub returns-in_default-unit_at-2 : goal.returns-in_default-unit_at-2
returns-in_default-unit_at-2 c = (omega arith, replaced_length _ _ (high_above _ _ c.requires _ c.unit_at.ensures.0 (omega arith) (omega arith) c.if-s-i.false _ c.unit_at-in-55296-to-56319.ensures.0 (omega arith)))

pub returns-in-56320-to-57343 : goal.returns-in-56320-to-57343
returns-in-56320-to-57343 c = (omega arith, pair_length _ _ c.requires _ c.unit_at.ensures.0 (omega arith) (omega arith) c.if-s-i.false _ c.unit_at-in-55296-to-56319.ensures.0 (omega arith) (omega arith))
