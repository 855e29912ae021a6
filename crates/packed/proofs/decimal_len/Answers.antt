use mathlib.Core.List.{◌++◌}
use mathlib.Core.Path.{ap}
use native.Mathlib.Omega.{arith}
use lib.ListN.{length, take, length-append}
use Rattle.packed.specs.Packed.{sign_text, digit_text, trimmed, fraction}
use Rattle.packed.proofs.Nibbles.{parts}
use Rattle.packed.proofs.decimal_len.Goals as goal

pub returns : goal.returns
returns c =
    let args = c.args in
    let s = args.«data».now in
    let f = c.from-f in
    let w = trimmed (take c.saturating_sub-w.result (digit_text s)) in
    let fr = fraction f.result (digit_text s) in
    omega (
      arith,
      ap length (parts args.scale s c.saturating_sub-w.result f.result f.ensures c.saturating_sub-w.ensures),
      length-append (sign_text s) (w ++ fr),
      length-append w fr,
      c.fraction_len.ensures.0 (digit_text s),
    )
