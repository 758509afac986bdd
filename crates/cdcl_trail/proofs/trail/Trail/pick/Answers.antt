use Rattle.std.proofs.Common.{subst}
use Rattle.cdcl_trail.specs.Choices.{IsOpen, IsPick}
use Rattle.cdcl_trail.specs.State.{State}
use Rattle.cdcl_trail.proofs.Picking.{assigned_where_none}
use Rattle.cdcl_trail.proofs.trail.Trail.pick.Goals as goal

pub returns-clause-exact : goal.returns-clause-exact
returns-clause-exact c = subst (λ (s : State). IsPick (IsOpen s.entries s.counts) s.focus c.pick.result) c.self.view_is c.pick.ensures

pub returns-clause-none : goal.returns-clause-none
returns-clause-none c =
    let old = c.args.self.now in
    assigned_where_none old.entries old.counts old.focus c.pick.result (returns-clause-exact c)
