use Prim.Native.Nat.{ℕ}
use mathlib.Core.Path.{◌≡◌, refl, ap, ◌∙◌}
use mathlib.Core.List.{List, ◌++◌}
use native.Mathlib.Omega.{arith}
use Rattle.std.specs.Slice.Iter.{chunks_rest}
use Rattle.codepage.specs.CodePage.{byte_text, code_point819}
use Rattle.buffer.proofs.Writing.{wrote_rest, fits_rest, all, end}
use Rattle.codepage.proofs.Blocks.{byte_append}
use Rattle.codepage.proofs.ByteText.{byte_end}
use Rattle.codepage.proofs.latin1_write.Goals as goal

pub latin1_block-o-requires : goal.latin1_block-o-requires
latin1_block-o-requires c =
    let Block : List ℕ = c.in-Some.block.now in
    let Rest : List ℕ = chunks_rest c.next.new.self in
    let steps = c.in-Some.ensures.steps in
    let text : byte_text code_point819 (chunks_rest c.loop-block.block-iterator) ≡ byte_text code_point819 Block ++ byte_text code_point819 Rest = ap (byte_text code_point819) steps.1.0 ∙ byte_append code_point819 Block Rest in
    (omega (arith, steps.1.1, c.loop-block.invariant.0), fits_rest c.loop-block.invariant.1 (byte_text code_point819 Block) _ text refl)

pub loop-block-preserved : goal.loop-block-preserved
loop-block-preserved c =
    let Block : List ℕ = c.in-Some.block.now in
    let Rest : List ℕ = chunks_rest c.next.new.self in
    let steps = c.in-Some.ensures.steps in
    let text : byte_text code_point819 (chunks_rest c.loop-block.block-iterator) ≡ byte_text code_point819 Block ++ byte_text code_point819 Rest = ap (byte_text code_point819) steps.1.0 ∙ byte_append code_point819 Block Rest in
    (steps.0 ∙ c.loop-block.invariant.0, wrote_rest c.loop-block.invariant.1 (byte_text code_point819 Block) _ text c.latin1_block-o.new.out c.latin1_block-o.ensures.bytes c.latin1_block-o.result c.latin1_block-o.ensures.count)

pub returns : goal.returns
returns c =
    let done = byte_end code_point819 (chunks_rest c.loop-block.block-iterator) 0 (omega (arith, c.in-None.ensures.steps.1.0)) in
    record { count = all c.loop-block.invariant.1 done; bytes = end c.loop-block.invariant.1 done }
