use mathlib.Core.Path.{refl}
use native.Mathlib.Omega.{arith}
use Rattle.unicode_standard.specs.Laws.{AreBytes}
use Rattle.buffer.proofs.Writing.{wrote_rest, fits_rest, as_long, all, end}
use Rattle.conversion.proofs.Guesses.{guess_least, begun, covered, lent_split, high_ebcdic, none_ascii}
use Rattle.conversion.proofs.guess_write.Goals as goal

-- `conversion::guess_write` meets its contract: all was copied, or code page 037 was written over what was. Assumes nothing.
pub copy_ascii_long-n-requires : goal.copy_ascii_long-n-requires
copy_ascii_long-n-requires c = omega (arith, c.requires, guess_least c.args.s.now (λ j. omega (arith, c.type_inv.s j)))

pub text_write-w-requires : goal.text_write-w-requires
text_write-w-requires c =
    let h : AreBytes c.args.s.now = λ j. omega (arith, c.type_inv.s j) in
    let n = c.copy_ascii_long-n in
    let w = begun c.args.s.now c.args.out.now n.new.out n.result h c.requires n.ensures.run n.ensures.bytes in
    let e = high_ebcdic c.args.s.now n.result n.ensures.run c.has_high.ensures c.if-has_high.true in
    rw (← e) (omega (arith, c.requires, as_long w))

pub returns-then-has_high : goal.returns-then-has_high
returns-then-has_high c =
    let h : AreBytes c.args.s.now = λ j. omega (arith, c.type_inv.s j) in
    let n = c.copy_ascii_long-n in
    let p = c.text_write-w.ensures in
    let e = high_ebcdic c.args.s.now n.result n.ensures.run c.has_high.ensures c.if-has_high.true in
    rw e (record { count = p.count; bytes = covered c.args.s.now c.args.out.now n.new.out n.result h c.requires n.ensures.run n.ensures.bytes e p.bytes })

pub copy-requires : goal.copy-requires
copy-requires c =
    let h : AreBytes c.args.s.now = λ j. omega (arith, c.type_inv.s j) in
    let n = c.copy_ascii_long-n in
    fits_rest (begun c.args.s.now c.args.out.now n.new.out n.result h c.requires n.ensures.run n.ensures.bytes) _ _ (lent_split c.args.s.now n.result) refl

pub returns : goal.returns
returns c =
    let h : AreBytes c.args.s.now = λ j. omega (arith, c.type_inv.s j) in
    let n = c.copy_ascii_long-n in
    let p = c.copy in
    let u = wrote_rest (begun c.args.s.now c.args.out.now n.new.out n.result h c.requires n.ensures.run n.ensures.bytes) _ _ (lent_split c.args.s.now n.result) p.new.out p.ensures.bytes p.result p.ensures.count in
    rw (none_ascii c.args.s.now n.result n.ensures.run c.has_high.ensures c.if-has_high.false) (record { count = all u refl; bytes = end u refl })
