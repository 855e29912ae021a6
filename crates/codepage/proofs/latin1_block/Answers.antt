use mathlib.Core.Path.{◌≡◌, sym, ap, ◌∙◌}
use native.Mathlib.Omega.{arith}
use lib.ListN.{length}
use Rattle.codepage.specs.CodePage.{byte_text, code_point819}
use Rattle.codepage.proofs.Blocks.{plain_text, highs_most}
use Rattle.codepage.proofs.latin1_block.Goals as goal

pub copy-requires : goal.copy-requires
copy-requires c =
    let plain : byte_text code_point819 c.args.s.now ≡ c.args.s.now = plain_text _ (sym c.high_count-k.ensures ∙ c.if-k-eq0.true) in
    omega (arith, ap length plain, c.requires)

pub returns-then-k-eq0 : goal.returns-then-k-eq0
returns-then-k-eq0 c =
    let plain : byte_text code_point819 c.args.s.now ≡ c.args.s.now = plain_text _ (sym c.high_count-k.ensures ∙ c.if-k-eq0.true) in
    rw plain c.copy.ensures

pub dense_write-requires : goal.dense_write-requires
dense_write-requires c =
    let s = c.args.s.now in (
      omega (arith, c.if-s-k.true, c.high_count-k.ensures, highs_most s (λ j. omega (arith, c.type_inv.s j))),
      c.requires.1,
    )
