use Rattle.packed.proofs.Nibbles.{sign_length}
use Rattle.packed.proofs.sign_len.Goals as goal

pub returns : goal.returns
returns c = rw c.from.ensures (sign_length _ _ c.is_minus.ensures)
