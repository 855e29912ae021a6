use Prim.Native.Nat.{ℕ, ◌+◌}
use mathlib.Core.List.{List}
use mathlib.Core.Path.{ap}
use lib.ListN.{length}
use Rattle.utf.proofs.AsciiLaws.{rest}
use Rattle.utf.proofs.Utf8Runs.{text_end}
use Rattle.utf.specs.Lossy.{PartLength}
use Rattle.utf.proofs.LossyLengths.{length_more, good_part}
use native.Mathlib.Omega.{arith}
use Rattle.utf.proofs.lossy.utf8_lossy_len.Goals as goal

pub returns-then-s-i : goal.returns-then-s-i
returns-then-s-i c =
    let S : List ℕ = c.args.s.now in
    let I : ℕ = c.loop-i.i + c.lone_blocks-b.result.read in
    let N : ℕ = c.loop-i.n + c.lone_blocks-b.result.len in
    let lone : PartLength S I N = length_more S c.loop-i.i c.loop-i.n c.loop-i.invariant _ _ (rw (rest S c.loop-i.i) at c.lone_blocks-b.ensures) in
    let I₁ : ℕ = I + c.some_pieces-p.result.read in
    let N₁ : ℕ = N + c.some_pieces-p.result.len in
    let pieces : PartLength S I₁ N₁ = length_more S I N lone _ _ (rw (rest S I) at c.some_pieces-p.ensures.0) in
    omega (arith, (pieces).text, ap length (text_end S I₁ c.if-s-i.true))

pub loop-i-preserved : goal.loop-i-preserved
loop-i-preserved c =
    let S : List ℕ = c.args.s.now in
    let I : ℕ = c.loop-i.i + c.lone_blocks-b.result.read in
    let N : ℕ = c.loop-i.n + c.lone_blocks-b.result.len in
    let lone : PartLength S I N = length_more S c.loop-i.i c.loop-i.n c.loop-i.invariant _ _ (rw (rest S c.loop-i.i) at c.lone_blocks-b.ensures) in
    let I₁ : ℕ = I + c.some_pieces-p.result.read in
    let N₁ : ℕ = N + c.some_pieces-p.result.len in
    let pieces : PartLength S I₁ N₁ = length_more S I N lone _ _ (rw (rest S I) at c.some_pieces-p.ensures.0) in
    let run : PartLength S (I₁ + c.good_blocks-g.result) (N₁ + c.good_blocks-g.result) = length_more S I₁ N₁ pieces _ _ (good_part _ _ (rw (rest S I₁) at c.good_blocks-g.ensures)) in
    run
