use mathlib.Core.Path.{sym, ap, ◌∙◌}
use Rattle.conversion.specs.declared.Conversion.{Conversion}
use Rattle.conversion.specs.Picked.{converted_in}
use Rattle.conversion.proofs.Picks.{plain_picked}
use Rattle.piece.proofs.items.reading_len.Goals as goal

pub returns-in-By-clause-plain : goal.returns-in-By-clause-plain
returns-in-By-clause-plain c =
    let s = c.args.s.now in
    rw c.in-By.is (λ h. sym c.conversion_of-conversion.ensures ∙ sym c.text_measure-m.ensures.alike ∙ ap (λ (k : Conversion). converted_in k s) (c.is_plain.ensures h) ∙ plain_picked s)
