use Rattle.std.proofs.Common.{subst}
use Rattle.cdcl_trail.specs.Assigned.{IsTrueOn}
use Rattle.cdcl_trail.specs.State.{State}
use Rattle.clause_meaning.specs.Resting.{Says}
use Rattle.cdcl_trail.proofs.trail.Trail.look.Goals as goal

pub returns : goal.returns
returns c = subst (λ (s : State). Says (IsTrueOn s.entries) c.args.clause.now c.look_at.result) c.self.view_is c.look_at.ensures
