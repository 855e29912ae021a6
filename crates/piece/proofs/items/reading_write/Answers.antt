use Prim.Native.Nat.{◌≤◌}
use mathlib.Core.Path.{sym, ap, subst, ◌∙◌}
use lib.ListN.{length}
use Rattle.buffer.specs.Buffer.{Converted, overwritten}
use Rattle.conversion.proofs.Picks.{plain_picked}
use Rattle.piece.proofs.items.reading_write.Goals as goal

-- `piece::items::reading_write` meets its contract where the text is the bytes themselves. Assumes nothing.
pub text_write-requires : goal.text_write-requires
text_write-requires c = subst (λ (t : Converted). length t.text_bytes ≤ length c.args.out.now) (c.requires.1.0 c.if-plain.true ∙ sym (plain_picked c.args.s.now)) c.requires.1.1

pub returns-then-plain-clause-count : goal.returns-then-plain-clause-count
returns-then-plain-clause-count c = c.text_write.ensures.count ∙ ap (λ (t : Converted). length t.text_bytes) (plain_picked c.args.s.now ∙ sym (c.requires.1.0 c.if-plain.true))

pub returns-then-plain-clause-bytes : goal.returns-then-plain-clause-bytes
returns-then-plain-clause-bytes c = c.text_write.ensures.bytes ∙ ap (λ (t : Converted). overwritten t.text_bytes c.args.out.now) (plain_picked c.args.s.now ∙ sym (c.requires.1.0 c.if-plain.true))

pub returns-then-plain-clause-replaced : goal.returns-then-plain-clause-replaced
returns-then-plain-clause-replaced c = c.text_write.ensures.replaced ∙ ap (λ (t : Converted). t.replaced) (plain_picked c.args.s.now ∙ sym (c.requires.1.0 c.if-plain.true))
