use Rattle.std.proofs.Common.{None, ap, ◌∙◌}
use Rattle.cdcl_core.specs.State.{State, without_variable}
use Rattle.cdcl_core.specs.Changes.{live_in}
use Rattle.cdcl_core.proofs.Shows.{without_values-becomes}
use Rattle.cdcl_core.proofs.solver.Solver.close.Goals as goal

pub returns : goal.returns
returns c =
    let old = c.self.inside.store in
    record {
      exact = without_values-becomes old c.drop_clauses.new.self (without_variable (live_in c.self.inside.store) c.args.variable) old.next
          c.drop_clauses.ensures.exact
          ∙ ap (λ (s : State). record s { live = without_variable s.live c.args.variable; values = None }) c.self.view_is;
    }
