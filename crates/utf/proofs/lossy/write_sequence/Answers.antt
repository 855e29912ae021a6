use Prim.Native.Nat.{ℕ, ◌+◌, ◌-◌, ◌≤◌}
use mathlib.Core.Bool.{true}
use mathlib.Core.List.{List}
use mathlib.Core.Path.{◌≡◌, ◌∙◌}
use lib.ListN.{length, take, drop}
use Rattle.unicode_standard.specs.Unicode.{piece_text}
use Rattle.utf.specs.Utf8Code.{first_at, PieceAt}
use Rattle.utf.proofs.Utf8Runs.{piece_fits, whole_text, whole_length, broken_text, broken_length}
use native.Mathlib.Omega.{arith}
use Rattle.utf.proofs.lossy.write_sequence.Goals as goal

pub copy_common-requires : goal.copy_common-requires
copy_common-requires c =
    let p = (rw c.in-Some.is at c.common_at.ensures) in
    (piece_fits _ _ _ true c.requires.0 p.1.1, (omega (arith, whole_length _ _ _ c.requires.0 p.1.1, c.requires.1), (p.0, p.1.0)))

pub returns-in-Some : goal.returns-in-Some
returns-in-Some c =
    let p = (rw c.in-Some.is at c.common_at.ensures) in record { piece = p.1.1; bytes = c.copy_common.ensures ∙ rw (whole_text _ _ _ c.requires.0 p.1.1) }

pub overflow_add-e : goal.overflow_add-e
overflow_add-e c =
    let S : List ℕ = c.args.s.now in
    let I : ℕ = c.args.i in
    let N : ℕ = c.in-WellFormed.n in
    let piece : PieceAt S I N true = (rw c.in-WellFormed.is at c.first_at.ensures) in
    let fits : I + N ≤ length S = piece_fits S I N true c.requires.0 piece in
    omega (arith, fits)

pub slice_bounds-copy_bytes-end : goal.slice_bounds-copy_bytes-end
slice_bounds-copy_bytes-end c =
    let S : List ℕ = c.args.s.now in
    let I : ℕ = c.args.i in
    let N : ℕ = c.in-WellFormed.n in
    let piece : PieceAt S I N true = (rw c.in-WellFormed.is at c.first_at.ensures) in
    let fits : I + N ≤ length S = piece_fits S I N true c.requires.0 piece in
    fits

pub copy_bytes-requires : goal.copy_bytes-requires
copy_bytes-requires c =
    let S : List ℕ = c.args.s.now in
    let I : ℕ = c.args.i in
    let N : ℕ = c.in-WellFormed.n in
    let piece : PieceAt S I N true = (rw c.in-WellFormed.is at c.first_at.ensures) in
    let text : piece_text (first_at S I).piece ≡ take N (drop I S) = whole_text S I N c.requires.0 piece in
    let q : I + N - I ≡ N = omega arith in
    rw (q, ← text) c.requires.1

pub write_replacement-requires : goal.write_replacement-requires
write_replacement-requires c =
    let p = (rw c.in-Malformed.is at c.first_at.ensures) in
    omega (arith, broken_length _ _ _ p, c.requires.1)

pub returns-in-WellFormed : goal.returns-in-WellFormed
returns-in-WellFormed c =
    let S : List ℕ = c.args.s.now in
    let I : ℕ = c.args.i in
    let N : ℕ = c.in-WellFormed.n in
    let piece : PieceAt S I N true = (rw c.in-WellFormed.is at c.first_at.ensures) in
    let text : piece_text (first_at S I).piece ≡ take N (drop I S) = whole_text S I N c.requires.0 piece in
    let q : I + N - I ≡ N = omega arith in record { piece = piece; bytes = c.copy_bytes.ensures ∙ rw (q, text) }

pub returns-in-Malformed : goal.returns-in-Malformed
returns-in-Malformed c =
    let p = (rw c.in-Malformed.is at c.first_at.ensures) in record { piece = p; bytes = c.write_replacement.ensures ∙ rw (broken_text _ _ _ p) }
