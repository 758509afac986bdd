use Rattle.std.proofs.Common.{None, ap, ◌∙◌}
use Rattle.cdcl_core.specs.State.{State}
use Rattle.cdcl_core.specs.Changes.{live_in}
use Rattle.cdcl_core.proofs.Shows.{without_values-becomes}
use Rattle.cdcl_core.proofs.solver.Solver.compact.Goals as goal

pub returns : goal.returns
returns c =
    let old = c.self.inside.store in
    record {
      exact = without_values-becomes old c.compact.new.self (live_in c.self.inside.store) old.next c.compact.ensures.exact
          ∙ ap (λ (s : State). record s { values = None }) c.self.view_is;
    }
