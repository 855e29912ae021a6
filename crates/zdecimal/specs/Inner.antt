-- For inner functions; no public promise rests on it. Assumes nothing.
use Rattle.std.specs.Prelude.{ℕ, ◌^◌, cond, ltb, Option, Some, None}
use Rattle.zdecimal.specs.ZDecimal.{plus, minus, invalid}
use Rattle.zdecimal.specs.ZDecimal as definition
use Rattle.zdecimal.specs.declared.Sign.{Sign}
use Rattle.zdecimal.specs.declared.Sign.TheVariants.{Plus, Minus}

abbrev pub told_sign : Option Sign → definition.Sign
told_sign (Some Plus) = plus
told_sign (Some Minus) = minus
told_sign None = invalid

-- a number that is below ten to the nineteenth, which 64 bits hold and a signed 64-bit number can't be; all others are alike
abbrev pub capped : ℕ → ℕ
capped n = cond (ltb n (10 ^ 19)) n (10 ^ 19)
