use Prim.Native.Nat.{ℕ, ◌+◌, ◌-◌}
use mathlib.Core.List.{List}
use mathlib.Core.Path.{◌≡◌}
use native.Mathlib.Omega.{arith}
use lib.ListN.{drop}
use Rattle.unicode_standard.specs.Unicode.{utf8, replacements, utf16_pieces, utf16_text}
use Rattle.buffer.specs.Filling.{Filling}
use Rattle.buffer.proofs.Writing.{wrote_first}
use Rattle.buffer.proofs.Filling.{loosened, fits, wrote_filling}
use Rattle.utf.proofs.AsciiLaws.{rest_length}
use Rattle.utf.proofs.Utf16LaneLaws.{lent_drop, lent_after}
use Rattle.utf.proofs.utf16.write_varied.Goals as goal

pub write_blocks-v-requires : goal.write_blocks-v-requires
write_blocks-v-requires c =
    let S : List ℕ = c.args.s.now in
    let K : ℕ = c.next_at-t.result.len - 2 in
    let on : 0 + c.next_at-t.result.len ≡ K + 2 = omega (arith, c.next_at-t.ensures.some) in
    let w₀ : Filling (utf16_text S) c.args.out.now (utf16_text (drop (K + 2) S)) c.write_scalar-n.new.out c.write_scalar-n.result = let nx = c.next_at-t.ensures in rw on at (loosened (wrote_first (utf16_text S) c.args.out.now c.requires (utf8 c.next_at-t.result.value) _ nx.here c.write_scalar-n.new.out c.write_scalar-n.ensures.bytes c.write_scalar-n.result c.write_scalar-n.ensures.count)) in (
      omega (arith, rest_length S K, c.next_at-t.ensures.fits, c.next_at-t.ensures.some),
      rw (lent_drop S K 2) (omega (arith, fits w₀, rest_length c.write_scalar-n.new.out c.write_scalar-n.result)),
    )

pub returns : goal.returns
returns c =
    let S : List ℕ = c.args.s.now in
    let K : ℕ = c.next_at-t.result.len - 2 in
    let on : 0 + c.next_at-t.result.len ≡ K + 2 = omega (arith, c.next_at-t.ensures.some) in
    let w₀ : Filling (utf16_text S) c.args.out.now (utf16_text (drop (K + 2) S)) c.write_scalar-n.new.out c.write_scalar-n.result = let nx = c.next_at-t.ensures in rw on at (loosened (wrote_first (utf16_text S) c.args.out.now c.requires (utf8 c.next_at-t.result.value) _ nx.here c.write_scalar-n.new.out c.write_scalar-n.ensures.bytes c.write_scalar-n.result c.write_scalar-n.ensures.count)) in
    let first : replacements (utf16_pieces S) ≡ c.next_at-t.result.replaced + replacements (utf16_pieces (drop (K + 2) S)) = rw on at c.next_at-t.ensures.part in
    let e : K + c.write_blocks-v.result.read + 2 ≡ K + 2 + c.write_blocks-v.result.read = omega arith in
    let b = rw e at (lent_after S K _ c.write_blocks-v.new.out c.write_blocks-v.result.read c.write_blocks-v.result.len c.write_blocks-v.ensures.0) in (
      wrote_filling w₀ b.0,
      (
        omega (arith, c.write_blocks-v.ensures.1, rest_length S K, c.next_at-t.ensures.fits, c.next_at-t.ensures.some),
        omega (arith, first, b.1),
      ),
    )
