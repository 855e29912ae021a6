-- N14d with a number: in which text buffers a row that zeros complete is accepted. Assumes nothing.
use Prim.Native.Nat.{ℕ, ◌+◌, ◌*◌, ◌≤◌}
use mathlib.Core.Path.{◌≡◌}
use mathlib.Core.List.{List, ◌++◌}
use native.Mathlib.Omega.{arith}
use lib.ListN.{length}
use Rattle.refusal.specs.Refusal.{accepted, refused, input_limit}
use Rattle.types.specs.declared.Columns.{Columns}
use Rattle.types.specs.Places.{covered}
use Rattle.unicode_standard.specs.Laws.{AreBytes}
use Rattle.rules.specs.Walk.{skip_of}
use Rattle.rules.specs.Conversions.{row_answer}
use Rattle.rules.specs.Waiting.{zero_bytes, zeros_for}
use Rattle.rules.proofs.Rows.{skip_fits}
use Rattle.rules.proofs.Zeros.{length_zeros, bytes_append, zeros_bytes}
use Rattle.rules.proofs.Waiting.{zeros_complete}
use Rattle.rules.proofs.WaitingCall.{tied, longer_reaches}
use Rattle.piece.proofs.Bound.{AllScaled, texts_bound}

-- three bytes for each of the row's, and 258 for each column
pub completed_in : (release : ℕ) (columns : Columns) (s d vs : List ℕ) → AllScaled (covered columns) → AreBytes s → 2 ≤ length s → (row_answer release columns s d).outcome ≡ refused 8 vs
    → length s + zeros_for (covered columns) s ≤ input_limit
    → (e : List ℕ) → 3 * (length s + zeros_for (covered columns) s) + 258 * length (covered columns) ≤ length e
    → ((row_answer release columns (s ++ zero_bytes (zeros_for (covered columns) s)) e).outcome ≡ accepted)
    × ((row_answer release columns (s ++ zero_bytes (zeros_for (covered columns) s)) e).used ≡ length s + zeros_for (covered columns) s)
completed_in release columns s d vs scaled bytes two o limit e room =
    let k = zeros_for (covered columns) s in
    let t = s ++ zero_bytes k in
    let l = length_zeros s k in
    let r = (tied release).from_8 columns s d vs o in
    let a = zeros_complete.complete (covered columns) s two (r.1, r.2, r.3) in
    let texts = texts_bound release (covered columns) (skip_of t) t a.0 (length s + k) scaled (bytes_append s (zero_bytes k) bytes (zeros_bytes k)) (omega (arith, l, skip_fits t)) a.1 in
    (tied release).done_accepted columns t e (longer_reaches release columns s (zero_bytes k) r.0 (omega (arith, l, limit))) a.0 (length s + k) a.1 (omega (arith, texts, room))
