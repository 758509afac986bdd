use Rattle.std.proofs.Common.{ℕ, List, subst}
use Rattle.std.proofs.lemmas.List.Elements.{All-more}
use Rattle.cq_steps.specs.declared.closure.Member.{Member}
use Rattle.cq_steps.specs.Derivation.{IsDerivation}
use Rattle.classifier.proofs.whole.are_derived.Goals as goal

pub loop-closure-preserved : goal.loop-closure-preserved
loop-closure-preserved c =
    let item : ℕ × List Member = c.closure-item.result in
    All-more (λ (x : ℕ × List Member). IsDerivation x.1) c.args.closures.now c.loop-closure.closure-index item c.loop-closure-test.true
    c.loop-closure.invariant (subst (λ (x : ℕ × List Member). IsDerivation x.1) c.closure-item.is c.members-members.ensures.derivation)
