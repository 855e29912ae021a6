use mathlib.Core.List.{[], append-nil}
use mathlib.Core.Path.{refl, sym}
use native.Mathlib.Omega.{arith}
use Rattle.buffer.proofs.Writing.{fits_rest}
use Rattle.packed.proofs.Parts.{WroteWhole, last_part, sign_fits, after_sign, after_whole}
use Rattle.packed.proofs.decimal_write.Goals.{After-whole_write-o}
use Rattle.packed.proofs.decimal_write.Goals as goal

pub sign_write-o-requires : goal.sign_write-o-requires
sign_write-o-requires c = (c.requires.0, sign_fits _ _ _ c.requires.1.1 c.from-f.ensures c.saturating_sub-w.ensures)

pub whole_write-o-requires : goal.whole_write-o-requires
whole_write-o-requires c =
    let w = after_sign _ _ _ c.requires.1.1 c.from-f.ensures c.saturating_sub-w.ensures c.sign_write-o.ensures.bytes c.sign_write-o.ensures.count in
    (omega (arith, c.saturating_sub-w.ensures, c.requires), fits_rest w _ _ refl refl)

wrote : (c : After-whole_write-o) → WroteWhole c.args.scale c.from-f.result c.args.«data».now c.args.out.now c.sign_write-o.new.out c.sign_write-o.result c.whole_write-o.new.out c.whole_write-o.result
wrote c = after_whole _ _ _ c.requires.1.1 c.from-f.ensures c.saturating_sub-w.ensures c.sign_write-o.ensures.bytes c.sign_write-o.ensures.count c.whole_write-o.ensures.bytes c.whole_write-o.ensures.count

pub fraction_write-o-requires : goal.fraction_write-o-requires
fraction_write-o-requires c =
    let w = wrote (goal.at.fraction_write-o-requires c).After-whole_write-o in
    (c.requires.0, (c.requires.1.0, fits_rest w _ [] (sym (append-nil _)) refl))

pub returns : goal.returns
returns c =
    let w = wrote (goal.at.returns c).After-whole_write-o in
    let l = last_part w c.fraction_write-o.ensures.bytes c.fraction_write-o.ensures.count in
    record { count = l.0; bytes = l.1 }
