use Rattle.cq_terms.specs.Knowledge.{AreDistinct}
use Rattle.matching_tests.proofs.chance.some_facts.Given as goal

abbrev pub invariant-loop : goal.invariant-loop
invariant-loop l = AreDistinct l.facts.items
