use borrow.Author.Rules.{rules}
use Prim.Native.Nat.{ℕ, ◌+◌}
use mathlib.Core.Path.{◌≡◌, sym, ap, ◌∙◌}
use mathlib.Core.List.{List, ◌++◌}
use lib.ListN.{drop}
use Rattle.std.specs.Slice.Iter.{chunks_exact_rest}
use Rattle.buffer.proofs.Writing.{start, wrote_rest}
use Rattle.utf.proofs.AsciiLaws.{none_high, run_none, run_chunk}
use Rattle.conversion.proofs.copy_ascii_long.Goals as goal

pub loop-block-init : goal.loop-block-init
loop-block-init c = (search rules, search rules, run_none _, start _ _ c.requires)

pub loop-block-preserved : goal.loop-block-preserved
loop-block-preserved c =
    let S : List ℕ = c.args.s.now in
    let N : ℕ = c.loop-block.n in
    let Block : List ℕ = c.in-Some.block.now in
    let steps = c.in-Some.ensures.steps in
    let at = c.loop-block.invariant in
    let next = run_chunk N 1024 S at.2 Block (chunks_exact_rest c.next.new.self) (sym at.1 ∙ steps.1.0) (steps.1.1 ∙ at.0) (none_high _ _ c.has_high.ensures (search rules)) in
    let split : drop N S ≡ Block ++ drop (N + 1024) S = sym at.1 ∙ steps.1.0 ∙ ap (λ (l : List ℕ). Block ++ l) next.0 in
    (steps.0 ∙ at.0, next.0, next.1, wrote_rest at.3 Block (drop (N + 1024) S) split c.copy.new.out c.copy.ensures.bytes 1024 (sym (steps.1.1 ∙ at.0)))
