-- What the row call on words leaves in the lent words of values, by what is decided of the row. Assumes nothing.
use Rattle.std.specs.Prelude.{ℕ, List}
use Rattle.buffer.specs.Buffer.{overwritten}
use Rattle.rules.specs.Row.{Decision, refuse, accept, row_values}
use Rattle.rules.specs.Conversions.{conversions_of}
use Rattle.words.specs.Values.{pack_values}

-- the words of the values lie over the first of the lent words v; the others keep what they had. A refusal changes none
abbrev pub values_after : ℕ → Decision → List ℕ → List ℕ
values_after release (refuse n vs) v = v
values_after release (accept ps n) v = overwritten (pack_values (row_values (conversions_of release) ps 0)) v
