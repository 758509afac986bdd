use Rattle.cq_terms.specs.Knowledge.{AreDistinct}
use Rattle.matching_tests.proofs.tables.each_once.Given as goal

abbrev pub invariant-loop-fact : goal.invariant-loop-fact
invariant-loop-fact l = AreDistinct l.facts.items
