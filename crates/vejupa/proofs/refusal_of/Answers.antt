use Rattle.vejupa.proofs.Described.{counted_full, counted_broken, counted_end}
use Rattle.vejupa.proofs.refusal_of.Goals as goal

pub returns-then-columns-gt-MAX_COLUMNS : goal.returns-then-columns-gt-MAX_COLUMNS
returns-then-columns-gt-MAX_COLUMNS c = counted_full c.requires.0 c.requires.1 c.args.whole c.if-columns-gt-MAX_COLUMNS.true c.too_many.ensures

pub returns-then-end-data : goal.returns-then-end-data
returns-then-end-data c =
    counted_broken c.requires.0 c.requires.1 c.if-columns-gt-MAX_COLUMNS.false c.args.whole c.if-whole.true c.if-end-data.true

pub returns : goal.returns
returns c = counted_end c.requires.0 c.requires.1 c.if-columns-gt-MAX_COLUMNS.false c.args.whole c.else-whole.either
