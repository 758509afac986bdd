use Rattle.std.proofs.Common.{subst, sym}
use Rattle.cq_steps.specs.Derivation.{IsDerivation}
use Rattle.cq_steps.proofs.Derivations.{IsDerivation-push}
use Rattle.cq_steps.proofs.closure.Closure.push.Goals as goal

pub invariant_of-self-2 : goal.invariant_of-self-2
invariant_of-self-2 c =
    subst IsDerivation (sym c.in_ok-push.ensures.items)
    (IsDerivation-push c.self.inside.members.items c.args.member c.self.invariant
    (rw (← c.self.view_is) at c.requires.new) (rw (← c.self.view_is) at c.requires.step) (rw (← c.self.view_is) at c.requires.few))
