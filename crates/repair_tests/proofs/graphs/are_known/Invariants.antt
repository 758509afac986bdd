use Rattle.std.proofs.Common.{◌<◌, take, All}
use Rattle.cq_terms.specs.declared.facts.Pair.{Pair}
use Rattle.repair_tests.proofs.graphs.are_known.Given as goal

abbrev pub invariant-loop-pair : goal.invariant-loop-pair
invariant-loop-pair l = All (λ (p : Pair). (p.upper < l.facts) × (p.lower < l.facts)) (take l.pair-index l.pairs)
