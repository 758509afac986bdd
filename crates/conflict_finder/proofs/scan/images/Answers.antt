use Rattle.conflict_finder.proofs.Joins.{part_length}
use Rattle.conflict_finder.proofs.scan.images.Goals as goal

pub pair_images-requires-clause-places : goal.pair_images-requires-clause-places
pair_images-requires-clause-places c = part_length c.args.pass.now.index.now c.args.pass.now.numbers.now c.args.pass.now.part.now
    (c.requires.part c.in-Pairs.is)

pub returns-in-Pairs-clause-many : goal.returns-in-Pairs-clause-many
returns-in-Pairs-clause-many c = λ e. rw c.in-Pairs.is (c.pair_images.ensures.many c.args.pass.now.index.now (c.requires.part c.in-Pairs.is) e)
