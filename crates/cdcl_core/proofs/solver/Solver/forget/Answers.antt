use Rattle.std.proofs.Common.{None, ap, ◌∙◌}
use Rattle.cdcl_core.specs.State.{State, without_number}
use Rattle.cdcl_core.specs.Changes.{live_in}
use Rattle.cdcl_core.proofs.Shows.{without_values-becomes}
use Rattle.cdcl_core.proofs.solver.Solver.forget.Goals as goal

pub returns : goal.returns
returns c =
    let old = c.self.inside.store in
    record {
      exact = without_values-becomes old c.drop_clauses.new.self (without_number (live_in c.self.inside.store) c.args.number) old.next
          c.drop_clauses.ensures.exact
          ∙ ap (λ (s : State). record s { live = without_number s.live c.args.number; values = None }) c.self.view_is;
    }
