use Prim.Native.Nat.{ℕ, ◌+◌}
use mathlib.Core.Bool.{true}
use mathlib.Core.List.{List}
use mathlib.Core.Path.{sym}
use Rattle.utf.specs.Utf8Code.{PieceAt, Good}
use Rattle.utf.proofs.Utf8Runs.{good_more, good_at, stop_at, stop_end, ascii_good_at}
use native.Mathlib.Omega.{arith}
use Rattle.utf.proofs.utf8.run_of.Goals as goal

pub returns-then-s-e : goal.returns-then-s-e
returns-then-s-e c =
    let ascii : Good (c.loop-e.e + c.ascii_run-e.result) c.args.s.now = good_more _ _ _ c.loop-e.invariant (ascii_good_at c.args.s.now c.loop-e.e c.ascii_run-e.result c.ascii_run-e.ensures) in record { good = ascii; stop = stop_end _ _ ascii c.if-s-e.true }

pub overflow_add-e-in-WellFormed : goal.overflow_add-e-in-WellFormed
overflow_add-e-in-WellFormed c =
    let ascii : Good (c.loop-e.e + c.ascii_run-e.result) c.args.s.now = good_more _ _ _ c.loop-e.invariant (ascii_good_at c.args.s.now c.loop-e.e c.ascii_run-e.result c.ascii_run-e.ensures) in
    let S : List ℕ = c.args.s.now in
    let E : ℕ = c.loop-e.e + c.ascii_run-e.result in
    let N : ℕ = c.in-WellFormed.n in
    let piece : PieceAt S E N true = (rw c.in-WellFormed.is at c.step_at.ensures) in
    let more : Good (E + N) S = good_more E N S ascii (good_at S E N c.if-s-e.false piece.0 (sym piece.1)) in
    omega (arith, (more).fits)

pub loop-e-preserved : goal.loop-e-preserved
loop-e-preserved c =
    let ascii : Good (c.loop-e.e + c.ascii_run-e.result) c.args.s.now = good_more _ _ _ c.loop-e.invariant (ascii_good_at c.args.s.now c.loop-e.e c.ascii_run-e.result c.ascii_run-e.ensures) in
    let S : List ℕ = c.args.s.now in
    let E : ℕ = c.loop-e.e + c.ascii_run-e.result in
    let N : ℕ = c.in-WellFormed.n in
    let piece : PieceAt S E N true = (rw c.in-WellFormed.is at c.step_at.ensures) in
    let more : Good (E + N) S = good_more E N S ascii (good_at S E N c.if-s-e.false piece.0 (sym piece.1)) in
    more

pub returns-in-Malformed : goal.returns-in-Malformed
returns-in-Malformed c =
    let ascii : Good (c.loop-e.e + c.ascii_run-e.result) c.args.s.now = good_more _ _ _ c.loop-e.invariant (ascii_good_at c.args.s.now c.loop-e.e c.ascii_run-e.result c.ascii_run-e.ensures) in
    let p = (rw c.in-Malformed.is at c.step_at.ensures) in record { good = ascii; stop = stop_at _ _ _ c.if-s-e.false p.0 (sym p.1) }
