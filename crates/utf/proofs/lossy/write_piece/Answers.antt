use mathlib.Core.Path.{refl, ◌∙◌}
use Rattle.utf.proofs.Utf8Runs.{broken_text, broken_length}
use native.Mathlib.Omega.{arith}
use Rattle.utf.proofs.lossy.write_piece.Goals as goal

pub write_replacement-requires : goal.write_replacement-requires
write_replacement-requires c =
    let args = c.args in
    let p = c.begins_none.ensures c.if-begins_none.true args.s.now args.i refl in
    omega (arith, broken_length args.s.now args.i 1 p, c.requires.1)

pub returns-then-begins_none : goal.returns-then-begins_none
returns-then-begins_none c =
    let args = c.args in
    let p = c.begins_none.ensures c.if-begins_none.true args.s.now args.i refl in record { piece = p; bytes = c.write_replacement.ensures ∙ rw (broken_text args.s.now args.i 1 p) }
