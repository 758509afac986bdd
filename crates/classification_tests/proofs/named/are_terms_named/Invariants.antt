use Rattle.std.proofs.Common.{take}
use Rattle.std.specs.Prelude.{All}
use Rattle.preparation.specs.Prepared.{IsTermBelow}
use Rattle.classification_tests.proofs.named.are_terms_named.Given as goal

abbrev pub invariant-loop-term : goal.invariant-loop-term
invariant-loop-term l = All (IsTermBelow l.count) (take l.term-index l.terms)
