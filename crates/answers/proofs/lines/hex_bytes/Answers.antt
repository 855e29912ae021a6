use mathlib.Core.Path.{refl}
use native.Mathlib.Omega.{arith}
use borrow.Author.Rules.{rules}
use lib.ListN.{length-set}
use Rattle.conversion.specs.Hex.{hex_text}
use Rattle.answers.proofs.Hex.{read_next}
use Rattle.answers.proofs.lines.hex_bytes.Goals as goal

pub loop-i-init : goal.loop-i-init
unfolding hex_text
loop-i-init c = (refl, refl)

pub loop-i-preserved : goal.loop-i-preserved
loop-i-preserved c =
    let s = c.args.s.now in (
      simp length-set c.loop-i.invariant.0,
      read_next s c.loop-i.out c.loop-i.i c.in_ok-out.field-0 (omega arith) (omega arith) c.loop-i.invariant.1 (search rules),
    )
