-- For inner functions; no public promise rests on it. The texts of a walk together, the buffer that they need, and how many U+FFFD were put in.
-- Assumes nothing.
use Rattle.std.specs.Prelude.{ℕ, cond, List, [], length, ltb, Option, Some, None}
use Rattle.rules.specs.Walk.{Walk, done, short}
use Rattle.rules.specs.Row.{row_texts, row_replaced}
use Rattle.rules.specs.Conversions.{conversions_of}

abbrev pub texts_of : ℕ → Walk → List ℕ
texts_of release (done ps n) = row_texts (conversions_of release) ps
texts_of release (short e a) = []

abbrev pub replaced_of : ℕ → Walk → ℕ
replaced_of release (done ps n) = row_replaced (conversions_of release) ps
replaced_of release (short e a) = 0

-- the length of the texts t where a buffer of n bytes is too short for them
abbrev pub needed_beyond : ℕ → List ℕ → Option ℕ
needed_beyond n t = cond (ltb n (length t)) (Some (length t)) None
