use Prim.Native.Nat.{ℕ, ◌-◌, ◌<◌}
use mathlib.Core.List.{List}
use mathlib.Core.Path.{◌≡◌, ap}
use native.Mathlib.Omega.{arith}
use lib.ListN.{length, take, get_or, length-take}
use lib.Seq.{get_or-take}
use Rattle.zdecimal.proofs.Digits.{none_made, byte_made, beyond, beyond_at_last, last_made}
use Rattle.zdecimal.proofs.ByPlace.{last_digit}
use Rattle.zdecimal.proofs.magnitude.Goals as goal

pub loop-b-init : goal.loop-b-init
loop-b-init c = (omega arith, none_made _)

pub returns-then-n-ge-TEN_17 : goal.returns-then-n-ge-TEN_17
returns-then-n-ge-TEN_17 c =
    let l = c.loop-b in
    beyond _ l.n l.b-index l.invariant.1 (omega (arith, length-take {A = ℕ})) c.if-n-ge-TEN_17.true

pub loop-b-preserved : goal.loop-b-preserved
loop-b-preserved c =
    let l = c.loop-b in
    let s : List ℕ = c.args.«data».now in
    let h : l.b-index < length s - 1 = omega (arith, length-take {A = ℕ}) in
    let b : get_or (take (length s - 1) s) l.b-index 0 ≡ get_or s l.b-index 0 = get_or-take (length s - 1) s l.b-index 0 h in
    (omega arith, byte_made _ l.n l.b-index l.invariant.1 (omega arith) _ (omega arith))

pub returns-then-n-ge-TEN_18 : goal.returns-then-n-ge-TEN_18
returns-then-n-ge-TEN_18 c =
    let l = c.loop-b in
    beyond_at_last _ l.n l.b-index l.invariant.1 (omega (arith, length-take {A = ℕ})) c.if-n-ge-TEN_18.true

pub returns : goal.returns
returns c =
    let s : List ℕ = c.args.«data».now in
    let l = c.loop-b in
    let e : l.b-index ≡ length s - 1 = omega (arith, length-take {A = ℕ}) in
    let d : get_or s l.b-index 0 ≡ get_or s (length s - 1) 0 = ap (λ (j : ℕ). get_or s j 0) e in
    last_made s l.n l.b-index l.invariant.1 (omega arith) (omega arith) (last_digit s l.b-index c.requires.1 (omega arith)) _ (omega arith)
