use Rattle.finder_tests.proofs.ExamplesTestLemmas.{concept_safe}
use Rattle.finder_tests.proofs.examples.vessels.Goals as goal

pub new-requires : goal.new-requires
new-requires c = record { safe = concept_safe 0 c.in_ok-head.head.items c.in_ok-body.body.items c.in_ok-head.ensures.items c.in_ok-body.ensures.items }
