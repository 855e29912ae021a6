use Prim.Native.Nat.{ℕ, ◌+◌, ◌*◌, ◌<◌}
use mathlib.Core.List.{List}
use mathlib.Core.Path.{sym, ◌∙◌}
use lib.ListN.{length}
use Rattle.utf.specs.Lossy.{PartLength}
use Rattle.utf.proofs.LossyLengths.{length_more, block_part}
use native.Mathlib.Omega.{arith}
use Rattle.utf.proofs.lossy.lone_blocks.Goals as goal

pub loop-i-preserved : goal.loop-i-preserved
loop-i-preserved c =
    let S : List ℕ = c.args.s.now in
    let I : ℕ = c.loop-i.i in
    let K : ℕ = c.from.result in
    let left : I + 64 < length S = omega (arith, c.if-s-i-lt65.false, c.loop-i.invariant.fits) in
    let block : PartLength S (I + 64) (c.loop-i.n + (64 + 2 * K)) = length_more S I c.loop-i.n c.loop-i.invariant 64 (64 + 2 * K) (block_part S I left (λ j. omega (arith, c.type_inv.s j)) K (rw c.from.ensures c.in-Some.ensures) (sym c.between.ensures ∙ c.if-between.false)) in
    block
