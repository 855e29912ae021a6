use Rattle.column.specs.Group.{no_entry}
use Rattle.triplets.specs.Descriptors.{no_entries}
use Rattle.description_words.proofs.Placing.{placing_start, placing_end, placing_room, placing_column}
use Rattle.description_words.proofs.write_all.Goals as goal

pub loop-next-init : goal.loop-next-init
unfolding no_entries no_entry
loop-next-init c = placing_start c.args.«data».now c.args.words.now c.requires.data_len_bound c.requires.data_in_bounds

pub returns : goal.returns
returns c = placing_end c.loop-next.invariant (rw c.in_default.is at c.next_column.ensures).0

pub put_column-requires : goal.put_column-requires
put_column-requires c = placing_room c.loop-next.invariant (rw c.in-Column.is at c.next_column.ensures).1

pub loop-next-preserved : goal.loop-next-preserved
loop-next-preserved c =
    let g = (rw c.in-Column.is at c.next_column.ensures) in
    rw (c.put_column.ensures, c.column_at.ensures) (placing_column c.loop-next.invariant g.1)
