use Rattle.std.proofs.Common.{sym, subst}
use Rattle.cdcl_core.specs.State.{State}
use Rattle.cdcl_core.specs.Solving.{AreAskable}
use Rattle.cdcl_core.proofs.Outcomes.{AreAskable-bare, ends_seen, present_in_range}
use Rattle.cdcl_core.proofs.solver.Solver.solve.Goals as goal

pub seek-requires-clause-askable : goal.seek-requires-clause-askable
seek-requires-clause-askable g c =
    AreAskable-bare c.self.inside.store c.self.inside.found c.args.scope.now c.args.assume.now
    (subst (λ (s : State). AreAskable s c.args.scope.now c.args.assume.now) (sym c.self.view_is) c.requires.askable)

pub returns-clause-ends : goal.returns-clause-ends
returns-clause-ends g c =
    ends_seen c.seek.new.store c.is_model-self-inside.result c.args.scope.now c.args.assume.now c.seek.new.budget c.in_ok-outcome.outcome
    c.is_model-self-inside.ensures c.in_ok-outcome.ensures.ends

pub invariant_of-self-2 : goal.invariant_of-self-2
invariant_of-self-2 g c =
    let askable = AreAskable-bare c.self.inside.store c.self.inside.found c.args.scope.now c.args.assume.now
    (subst (λ (s : State). AreAskable s c.args.scope.now c.args.assume.now) (sym c.self.view_is) c.requires.askable) in
    let learned = c.seek.ensures.learned in
    present_in_range c.self.inside.store c.seek.new.store c.is_model-self-inside.result c.args.scope.now c.args.assume.now c.args.budget.now c.seek.new.budget
    c.seek.new.budget learned.0 c.in_ok-outcome.outcome
    c.is_model-self-inside.ensures c.in_ok-outcome.ensures.ends learned.1 askable.in_range
