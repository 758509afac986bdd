use Rattle.std.proofs.Common.{take}
use Rattle.std.specs.Prelude.{All}
use Rattle.preparation.specs.Prepared.{IsFactBelow}
use Rattle.classification_tests.proofs.named.are_facts_named.Given as goal

abbrev pub invariant-loop-fact : goal.invariant-loop-fact
invariant-loop-fact l = All (IsFactBelow l.count) (take l.fact-index l.facts)
