use Prim.Native.Nat.{ℕ, ◌+◌, ◌≤◌}
use mathlib.Core.Bool.{true, false}
use mathlib.Core.List.{List}
use lib.ListN.{length}
use Rattle.utf.proofs.Utf8Runs.{ascii_good_at, piece_fits, whole_next, broken_next}
use Rattle.utf.specs.Lossy.{PartLength}
use Rattle.utf.specs.Utf8Code.{PieceAt}
use Rattle.utf.proofs.LossyLengths.{length_more, length_at, good_part}
use native.Mathlib.Omega.{arith}
use Rattle.utf.proofs.lossy.some_pieces.Goals as goal

pub returns-then-s-i : goal.returns-then-s-i
returns-then-s-i c =
    let S : List ℕ = c.args.s.now in
    let I : ℕ = c.loop-i.i + c.ascii_run-k.result in
    let N : ℕ = c.loop-i.n + c.ascii_run-k.result in
    let run : PartLength S I N = length_more S c.loop-i.i c.loop-i.n c.loop-i.invariant c.ascii_run-k.result c.ascii_run-k.result (good_part _ _ (ascii_good_at S c.loop-i.i c.ascii_run-k.result c.ascii_run-k.ensures)) in
    (run, λ h. omega arith)

pub overflow_add-i-in-WellFormed : goal.overflow_add-i-in-WellFormed
overflow_add-i-in-WellFormed c =
    let S : List ℕ = c.args.s.now in
    let I : ℕ = c.loop-i.i + c.ascii_run-k.result in
    let T₁ : ℕ = c.in-WellFormed.t in
    let piece₁ : PieceAt S I T₁ true = c.in-WellFormed.ensures in
    let fits₁ : I + T₁ ≤ length S = piece_fits S I T₁ true c.if-s-i.false piece₁ in
    omega (arith, fits₁)

pub overflow_add-n-in-WellFormed : goal.overflow_add-n-in-WellFormed
overflow_add-n-in-WellFormed c =
    let S : List ℕ = c.args.s.now in
    let I : ℕ = c.loop-i.i + c.ascii_run-k.result in
    let N : ℕ = c.loop-i.n + c.ascii_run-k.result in
    let run : PartLength S I N = length_more S c.loop-i.i c.loop-i.n c.loop-i.invariant c.ascii_run-k.result c.ascii_run-k.result (good_part _ _ (ascii_good_at S c.loop-i.i c.ascii_run-k.result c.ascii_run-k.ensures)) in
    let limit : length S ≤ 1048576 = c.requires in
    let T₁ : ℕ = c.in-WellFormed.t in
    let piece₁ : PieceAt S I T₁ true = c.in-WellFormed.ensures in
    let fits₁ : I + T₁ ≤ length S = piece_fits S I T₁ true c.if-s-i.false piece₁ in
    let whole : PartLength S (I + T₁) (N + T₁) = length_at S I N run T₁ T₁ fits₁ (whole_next S I T₁ c.if-s-i.false piece₁) (omega arith) in
    omega (arith, (whole).fits, (whole).most, limit)

pub loop-i-preserved-in-WellFormed : goal.loop-i-preserved-in-WellFormed
loop-i-preserved-in-WellFormed c =
    let S : List ℕ = c.args.s.now in
    let I : ℕ = c.loop-i.i + c.ascii_run-k.result in
    let N : ℕ = c.loop-i.n + c.ascii_run-k.result in
    let run : PartLength S I N = length_more S c.loop-i.i c.loop-i.n c.loop-i.invariant c.ascii_run-k.result c.ascii_run-k.result (good_part _ _ (ascii_good_at S c.loop-i.i c.ascii_run-k.result c.ascii_run-k.ensures)) in
    let T₁ : ℕ = c.in-WellFormed.t in
    let piece₁ : PieceAt S I T₁ true = c.in-WellFormed.ensures in
    let fits₁ : I + T₁ ≤ length S = piece_fits S I T₁ true c.if-s-i.false piece₁ in
    let whole : PartLength S (I + T₁) (N + T₁) = length_at S I N run T₁ T₁ fits₁ (whole_next S I T₁ c.if-s-i.false piece₁) (omega arith) in
    whole

pub overflow_add-i-in-Malformed : goal.overflow_add-i-in-Malformed
overflow_add-i-in-Malformed c =
    let S : List ℕ = c.args.s.now in
    let I : ℕ = c.loop-i.i + c.ascii_run-k.result in
    let T₂ : ℕ = c.in-Malformed.bad in
    let piece₂ : PieceAt S I T₂ false = c.in-Malformed.ensures in
    let fits₂ : I + T₂ ≤ length S = piece_fits S I T₂ false c.if-s-i.false piece₂ in
    omega (arith, fits₂)

pub loop-i-preserved : goal.loop-i-preserved
loop-i-preserved c =
    let S : List ℕ = c.args.s.now in
    let I : ℕ = c.loop-i.i + c.ascii_run-k.result in
    let N : ℕ = c.loop-i.n + c.ascii_run-k.result in
    let run : PartLength S I N = length_more S c.loop-i.i c.loop-i.n c.loop-i.invariant c.ascii_run-k.result c.ascii_run-k.result (good_part _ _ (ascii_good_at S c.loop-i.i c.ascii_run-k.result c.ascii_run-k.ensures)) in
    let T₂ : ℕ = c.in-Malformed.bad in
    let piece₂ : PieceAt S I T₂ false = c.in-Malformed.ensures in
    let fits₂ : I + T₂ ≤ length S = piece_fits S I T₂ false c.if-s-i.false piece₂ in
    let broken : PartLength S (I + T₂) (N + 3) = length_at S I N run T₂ 3 fits₂ (broken_next S I T₂ c.if-s-i.false piece₂) (omega (arith, piece₂.0)) in
    broken
