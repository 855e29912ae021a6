use Prim.Native.Nat.{ℕ, ◌≤◌}
use mathlib.Core.List.{List}
use mathlib.Core.Path.{◌≡◌}
use native.Mathlib.Omega.{arith}
use lib.ListN.{length, take}
use Rattle.std.proofs.Common.{rules}
use Rattle.numbers.specs.Number.{unsigned}
use Rattle.numbers.proofs.Laws.{take_first}
use Rattle.numbers.proofs.u32_of.Goals as goal

pub returns-in-BigEndian : goal.returns-in-BigEndian
unfolding unsigned
returns-in-BigEndian c =
    let s : List ℕ = c.args.s.now in
    let fits : 4 ≤ length s = c.requires in
    let bytes : c.unwrap-bytes.result.now ≡ take 4 s = search rules in
    let e = rw (bytes, take_first s 4) at c.from_be_bytes.ensures in
    rw (c.in-BigEndian.is, take_first s 4) (omega arith)

pub returns-in-LittleEndian : goal.returns-in-LittleEndian
unfolding unsigned
returns-in-LittleEndian c =
    let s : List ℕ = c.args.s.now in
    let fits : 4 ≤ length s = c.requires in
    let bytes : c.unwrap-bytes.result.now ≡ take 4 s = search rules in
    let e = rw (bytes, take_first s 4) at c.from_le_bytes.ensures in
    rw (c.in-LittleEndian.is, take_first s 4) (omega arith)
