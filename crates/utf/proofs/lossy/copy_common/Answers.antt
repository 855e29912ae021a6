use mathlib.Core.List.{[], ◌∷◌}
use mathlib.Core.Path.{◌≡◌}
use lib.Seq.{sets-eq}
use Rattle.utf.proofs.Utf8Runs.{three_bytes}
use native.Mathlib.Omega.{arith}
use Rattle.utf.proofs.lossy.copy_common.Goals as goal

pub returns : goal.returns
returns c =
    let e : c.args.n ≡ 3 = omega arith in
    rw (e, three_bytes c.args.s.now c.args.i (omega arith)) (sets-eq (_ ∷ _ ∷ _ ∷ []) c.args.out.now 0 (omega arith))
