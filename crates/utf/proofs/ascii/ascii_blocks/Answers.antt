use mathlib.Core.Path.{sym, ◌∙◌}
use borrow.Author.Rules.{rules}
use Rattle.std.specs.Slice.Iter.{chunks_exact_rest}
use Rattle.utf.proofs.AsciiLaws.{run_none, run_chunk}
use Rattle.utf.proofs.ascii.ascii_blocks.Goals as goal

pub loop-chunk-init : goal.loop-chunk-init
loop-chunk-init g c = (search rules, search rules, run_none _)

pub loop-chunk-preserved : goal.loop-chunk-preserved
loop-chunk-preserved g c =
    let steps = c.in-Some.ensures.steps in
    let at = c.loop-chunk.invariant in
    let long = steps.1.1 ∙ at.0 in
    let next = run_chunk c.loop-chunk.n g.row.N c.args.s.now at.2 c.in-Some.chunk.now (chunks_exact_rest c.next.new.self) (sym at.1 ∙ steps.1.0) long (c.requires.tells c.in-Some.chunk long (search rules)) in
    (steps.0 ∙ at.0, next.0, next.1)
