use Prim.Native.Nat.{◌<◌}
use mathlib.Core.Path.{◌≡◌, ◌∙◌}
use borrow.Author.Rules.{rules}
use lib.ListN.{get_or}
use Rattle.codepage.specs.CodePage.{code_point037}
use Rattle.codepage.specs.Pairs.{utf8_pair}
use Rattle.codepage.specs.Small.{code_point_small}
use Rattle.codepage.proofs.PairLaws.{pair_at, pair_first, pair_second, pair_count}
use Rattle.codepage.proofs.Pairs037Encoder.encode.Goals as goal

pub returns-clause-first : goal.returns-clause-first
returns-clause-first c =
    let b : c.args.b < 256 = search rules in
    let pair : get_or c.args.self.pairs.now c.from.result 0 ≡ utf8_pair (code_point037 c.args.b) = rw (c.from.ensures, c.args.self.paired) (pair_at c.args.b b) in
    c.first_of.ensures ∙ pair_first _ (code_point_small c.args.b b) _ pair

pub returns-clause-second : goal.returns-clause-second
returns-clause-second c =
    let b : c.args.b < 256 = search rules in
    let pair : get_or c.args.self.pairs.now c.from.result 0 ≡ utf8_pair (code_point037 c.args.b) = rw (c.from.ensures, c.args.self.paired) (pair_at c.args.b b) in
    λ h. c.second_of.ensures ∙ pair_second _ (code_point_small c.args.b b) _ pair h

pub returns-clause-count : goal.returns-clause-count
returns-clause-count c =
    let b : c.args.b < 256 = search rules in
    let pair : get_or c.args.self.pairs.now c.from.result 0 ≡ utf8_pair (code_point037 c.args.b) = rw (c.from.ensures, c.args.self.paired) (pair_at c.args.b b) in
    c.pair_len.ensures ∙ pair_count _ (code_point_small c.args.b b) _ pair
