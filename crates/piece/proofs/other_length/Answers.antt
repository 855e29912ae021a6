use Prim.Native.Nat.{ℕ}
use mathlib.Core.Path.{sym, ap, ◌∙◌}
use native.Mathlib.Omega.{arith}
use lib.ListN.{length, take, drop}
use lib.Seq.{length-take-le}
use Rattle.buffer.specs.Buffer.{unreplaced}
use Rattle.piece.proofs.ItemLaws.{found_within, found_text, found_plain}
use Rattle.piece.proofs.other_length.Goals as goal

pub slice_bounds-item_len-end : goal.slice_bounds-item_len-end
slice_bounds-item_len-end c = sym (length-take-le c.decode_other_value-d.result.used c.args.rest.now (omega (arith, (c.decode_other_value-d.ensures 2).1.0, c.requires.there)))

pub item_len-l-requires : goal.item_len-l-requires
item_len-l-requires c = (omega (arith, length-take-le c.decode_other_value-d.result.used c.args.rest.now (omega (arith, (c.decode_other_value-d.ensures 2).1.0, c.requires.there)), (c.decode_other_value-d.ensures 2).1.0, c.requires.there, c.requires.limit), found_within c.args.release c.decode_other_value-d.result c.args.column c.args.rest.now (c.decode_other_value-d.ensures c.args.release))

pub returns : goal.returns
returns c = record { used = (c.decode_other_value-d.ensures 2).1.0; len = c.item_len-l.ensures.len ∙ ap length (found_text c.args.release c.decode_other_value-d.result c.args.column c.args.rest.now (c.decode_other_value-d.ensures c.args.release)); plain = λ h. found_plain c.args.release c.decode_other_value-d.result c.args.column c.args.rest.now (c.decode_other_value-d.ensures c.args.release) (c.item_len-l.ensures.plain h ∙ ap (λ (f : ℕ). unreplaced (drop f (take c.decode_other_value-d.result.used c.args.rest.now))) c.text_start.ensures) }
