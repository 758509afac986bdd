use Rattle.std.proofs.Common.{ℕ, List, take}
use Rattle.std.specs.Prelude.{All}
use Rattle.cq_steps.specs.declared.closure.Member.{Member}
use Rattle.cq_steps.specs.Derivation.{IsDerivation}
use Rattle.classifier.proofs.whole.are_derived.Given as goal

abbrev pub invariant-loop-closure : goal.invariant-loop-closure
invariant-loop-closure l = All (λ (c : ℕ × List Member). IsDerivation c.1) (take l.closure-index l.closures)
