use Rattle.description_words.proofs.Counting.{triplet_group, triplet_sda, triplet_pending}
use Rattle.description_words.proofs.count_triplet.Goals as goal

pub returns-then-kind-eq-TRIPLET_TYPE_GDA : goal.returns-then-kind-eq-TRIPLET_TYPE_GDA
returns-then-kind-eq-TRIPLET_TYPE_GDA c = triplet_group _ c.args.body.now _ _ c.if-kind-eq-TRIPLET_TYPE_GDA.true c.count_group.ensures

pub returns-in-None : goal.returns-in-None
returns-in-None c = rw c.in-None.is (triplet_sda _ c.args.body.now _ c.if-kind-eq-TRIPLET_TYPE_GDA.false c.count_sda.ensures)

pub returns-in-Some : goal.returns-in-Some
returns-in-Some c = rw c.in-Some.is (triplet_pending _ c.args.body.now _ c.if-kind-eq-TRIPLET_TYPE_GDA.false)
