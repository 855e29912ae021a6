use borrow.Author.Tests.{lt-ltb, le-ltb}
use lib.ListN.{length}
use Rattle.vejupa.specs.Rows.{words_bytes}
use Rattle.vejupa.proofs.vejupa_raw_value_bytes.Goals as goal

pub returns-in_default : goal.returns-in_default
unfolding words_bytes
returns-in_default c = rw (lt-ltb (length c.args.value_words.now) 3 c.in_default.len_below)

pub returns : goal.returns
unfolding words_bytes
returns c =
    rw (le-ltb (length c.args.value_words.now) 3 c.in-len3-up.len_at_least, ← c.value_place-place.ensures)
    c.value_bytes.ensures
