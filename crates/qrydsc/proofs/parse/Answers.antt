use Rattle.std.proofs.Common.{rules}
use mathlib.Core.Path.{◌∙◌}
use Rattle.types.specs.Places.{blank_column}
use Rattle.column.specs.Group.{no_entry}
use Rattle.triplets.specs.Descriptors.{no_entries}
use Rattle.qrydsc.proofs.Filling.{fill}
use Rattle.qrydsc.proofs.Entries.{too_long, told_full}
use Rattle.qrydsc.proofs.Progress.{progress_start, progress_broken, progress_end, progress_full, progress_column}
use Rattle.qrydsc.proofs.parse.Goals as goal

pub returns-then-data-gt-MAX_QRYDSC : goal.returns-then-data-gt-MAX_QRYDSC
returns-then-data-gt-MAX_QRYDSC c = too_long c.args.whole _ c.if-data-gt-MAX_QRYDSC.true

pub loop-end-init : goal.loop-end-init
unfolding no_entries no_entry blank_column
loop-end-init c = search (rules, progress_start)

pub returns-then-whole : goal.returns-then-whole
returns-then-whole c =
    let g = (rw c.in-End.is at c.next_column.ensures) in
    progress_broken c.loop-end.invariant c.if-data-gt-MAX_QRYDSC.false _ g.0 g.1 _ c.if-whole.true c.if-broken_off.true

pub returns-in-End : goal.returns-in-End
unfolding fill
returns-in-End c =
    let g = (rw c.in-End.is at c.next_column.ensures) in
    progress_end c.loop-end.invariant c.if-data-gt-MAX_QRYDSC.false _ g.0 g.1 _ c.else-broken_off.either

pub returns-then-count-ge-MAX_COLUMNS : goal.returns-then-count-ge-MAX_COLUMNS
returns-then-count-ge-MAX_COLUMNS c =
    let g = (rw c.in-Column.is at c.next_column.ensures) in
    told_full _ _ _ _ c.too_many.ensures
    ∙ progress_full c.loop-end.invariant g.1 c.if-data-gt-MAX_QRYDSC.false _ c.if-count-ge-MAX_COLUMNS.true _ c.outer_at.ensures

pub loop-end-preserved : goal.loop-end-preserved
loop-end-preserved c =
    let g = (rw c.in-Column.is at c.next_column.ensures) in
    rw c.column_at.ensures (progress_column c.loop-end.invariant g.1 c.if-count-ge-MAX_COLUMNS.false)
