use Rattle.std.proofs.Common.{[], ◌∷◌, sym}
use native.Mathlib.Omega.{arith}
use Rattle.std.proofs.lemmas.Slice.Eq.{text_from_reads}
use Rattle.answers.specs.Lines.{bytes_field}
use Rattle.answers.proofs.lines.bytes.Goals as goal

pub returns-in-45-clause-bytes : goal.returns-in-45-clause-bytes
unfolding bytes_field
returns-in-45-clause-bytes c = sym (text_from_reads c.args.s.now (45 ∷ []) (omega arith) (omega arith, tt))
