use Rattle.utf.proofs.Utf16Laws.{below_surrogates}
use Rattle.utf.proofs.utf16.next_at.Goals as goal

pub returns-then-u-lt55296 : goal.returns-then-u-lt55296
returns-then-u-lt55296 c = below_surrogates _ _ c.requires _ c.unit_at-u.ensures.0 c.if-u-lt55296.true
