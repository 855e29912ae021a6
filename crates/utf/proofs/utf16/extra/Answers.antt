use Prim.Native.Nat.{◌+◌}
use Rattle.utf.specs.Utf16Code.{Extra}
use Rattle.utf.proofs.Utf16BlockLaws.{extra}
use Rattle.utf.proofs.utf16.extra.Goals as goal

pub returns : goal.returns
returns c =
    let said : Extra c.args.on c.args.a c.args.b c.args.c (c.from.result + c.from-2.result) = extra _ _ _ _ _ _ c.between.ensures c.between-2.ensures _ _ c.from.ensures c.from-2.ensures in
    said
