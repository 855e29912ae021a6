use Prim.Native.Nat.{ℕ, ◌+◌, ◌-◌, ◌*◌, ◌<◌}
use mathlib.Core.List.{List}
use mathlib.Core.Path.{◌≡◌, refl, ◌∙◌}
use native.Mathlib.Omega.{arith}
use lib.ListN.{take, drop, get_or, length-take, length-set}
use lib.Seq.{get_or-take, get_or-drop}
use Rattle.buffer.proofs.Writing.{stored}
use Rattle.packed.proofs.Nibbles.{run_length, bytes_next}
use Rattle.packed.proofs.by_byte_write.Goals as goal

pub bounds-out-n : goal.bounds-out-n
bounds-out-n c =
    let a = c.args in
    omega (arith, length-take {A = ℕ}, run_length a.«data».now (2 * a.i) (2 * a.j) (omega arith), c.requires)

pub bounds-out-n-in-loop-n : goal.bounds-out-n-in-loop-n
bounds-out-n-in-loop-n c =
    let a = c.args in
    simp length-set (omega (arith, length-take {A = ℕ}, run_length a.«data».now (2 * a.i) (2 * a.j) (omega arith), c.requires))

pub loop-n-preserved : goal.loop-n-preserved
loop-n-preserved c =
    let s : List ℕ = c.args.«data».now in
    let i : ℕ = c.args.i in
    let j : ℕ = c.args.j in
    let n : ℕ = c.loop-n.n in
    let within : n < j - i = omega (arith, length-take {A = ℕ}) in
    let byte : get_or (take (j - i) (drop i s)) n 0 ≡ get_or s (i + n) 0 = get_or-take (j - i) (drop i s) n 0 within ∙ get_or-drop i s n 0 in
    let place : 2 * (n + 1) ≡ 2 * n + 1 + 1 = omega arith in
    let next : i + (n + 1) ≡ i + n + 1 = omega arith in
    rw (byte, place, next) (stored (stored c.loop-n.invariant _ _ (bytes_next s (i + n) j (omega arith) c.requires.1.0)) _ _ refl)
