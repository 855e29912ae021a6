use Prim.Native.Nat.{ℕ, ◌-◌}
use mathlib.Core.List.{List, [], append-nil}
use mathlib.Core.Path.{◌≡◌, refl, sym, ap}
use lib.ListN.{length, take, drop, length-append}
use lib.Seq.{length-take-le}
use Rattle.unicode_standard.specs.Unicode.{replacements, utf8_pieces, utf8_text}
use Rattle.buffer.proofs.Writing.{Writing, wrote_first, wrote_rest, fits, all, end}
use Rattle.utf.proofs.AsciiLaws.{rest, rest_length}
use Rattle.utf.proofs.Utf8Runs.{good_text, good_count, text_end, count_end, stop_whole}
use native.Mathlib.Omega.{arith}
use Rattle.utf.proofs.lossy.utf8_lossy_write.Goals as goal

pub copy-requires : goal.copy-requires
copy-requires c =
    let S : List ℕ = c.args.s.now in
    let E : ℕ = c.run_of-r.result.end in
    let z : E - 0 ≡ E = omega arith in
    rw z (omega (arith, ap length (good_text E S c.run_of-r.ensures.good), length-append (take E S) (utf8_text (drop E S)), c.requires))

pub returns-then-is_none : goal.returns-then-is_none
returns-then-is_none c =
    let S : List ℕ = c.args.s.now in
    let E : ℕ = c.run_of-r.result.end in
    let Ys : List ℕ = c.copy.new.out in
    let w : Writing (utf8_text S) c.args.out.now (utf8_text (drop E S)) Ys E = let g = c.run_of-r.ensures.good in let z : E - 0 ≡ E = omega arith in wrote_first (utf8_text S) c.args.out.now c.requires (take E S) (utf8_text (drop E S)) (good_text E S g) Ys (rw z at c.copy.ensures.bytes) E (sym (length-take-le E S g.fits)) in
    let stop : E ≡ length S = stop_whole E c.run_of-r.result.bad S c.run_of-r.ensures.stop c.is_none.result c.is_none.ensures c.if-is_none.true in
    let done = text_end S E (omega (arith, stop)) in
    let k = count_end S E (omega (arith, stop)) in record { count = all w done; bytes = end w done; replaced = omega (arith, good_count E S c.run_of-r.ensures.good, k) }

pub write_runs-w-requires : goal.write_runs-w-requires
write_runs-w-requires c =
    let S : List ℕ = c.args.s.now in
    let E : ℕ = c.run_of-r.result.end in
    let Ys : List ℕ = c.copy.new.out in
    let w : Writing (utf8_text S) c.args.out.now (utf8_text (drop E S)) Ys E = let g = c.run_of-r.ensures.good in let z : E - 0 ≡ E = omega arith in wrote_first (utf8_text S) c.args.out.now c.requires (take E S) (utf8_text (drop E S)) (good_text E S g) Ys (rw z at c.copy.ensures.bytes) E (sym (length-take-le E S g.fits)) in
    rw (rest S E) (omega (arith, fits w, rest_length Ys E))

pub returns : goal.returns
returns c =
    let S : List ℕ = c.args.s.now in
    let E : ℕ = c.run_of-r.result.end in
    let Ys : List ℕ = c.copy.new.out in
    let w : Writing (utf8_text S) c.args.out.now (utf8_text (drop E S)) Ys E = let g = c.run_of-r.ensures.good in let z : E - 0 ≡ E = omega arith in wrote_first (utf8_text S) c.args.out.now c.requires (take E S) (utf8_text (drop E S)) (good_text E S g) Ys (rw z at c.copy.ensures.bytes) E (sym (length-take-le E S g.fits)) in
    let count : c.write_runs-w.result.len ≡ length (utf8_text (drop E S)) = rw (rest S E) at c.write_runs-w.ensures.count in
    let replaced : c.write_runs-w.result.replaced ≡ replacements (utf8_pieces (drop E S)) = rw (rest S E) at c.write_runs-w.ensures.replaced in
    let left = utf8_text (drop E S) in
    let bytes = rw (rest S E) at c.write_runs-w.ensures.bytes in
    let done = wrote_rest w left [] (sym (append-nil left)) c.write_runs-w.new.out bytes c.write_runs-w.result.len count in record { count = all done refl; bytes = end done refl; replaced = omega (arith, replaced, good_count E S c.run_of-r.ensures.good) }
