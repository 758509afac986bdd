use Rattle.std.proofs.lemmas.Result.{IfOk-weaker}
use Rattle.cq_terms.specs.Conflicts.{AreInConflict}
use Rattle.cq_terms.specs.Lists.{IsSorted}
use Rattle.repair_encoder.proofs.SortedLemmas.{sorted_known, sorted_closed, sorted_form, sorted_exact}
use Rattle.repair_encoder.proofs.base.base_clauses.Goals as goal

pub clauses_of_ascending-requires : goal.clauses_of_ascending-requires
clauses_of_ascending-requires c =
    let sorted : IsSorted c.args.facts.now c.as_slice.result.now = rw c.as_slice.ensures.lent c.in_ok-ascending.ensures.exact in
    record {
      over = c.requires.over;
      known = sorted_known _ _ sorted c.args.conflicts.now.facts c.requires.known;
      ascending = sorted.ascending;
      closed = sorted_closed _ _ sorted (AreInConflict c.args.conflicts.now.clashes) c.requires.closed;
    }

pub returns : goal.returns
returns c =
    let sorted : IsSorted c.args.facts.now c.as_slice.result.now = rw c.as_slice.ensures.lent c.in_ok-ascending.ensures.exact in
    record {
      once = c.clauses_of_ascending.ensures.once;
      form = IfOk-weaker _ _ _ (λ clauses h. sorted_form _ _ sorted clauses h) c.clauses_of_ascending.ensures.form;
      exact = IfOk-weaker _ _ _ (λ clauses h. sorted_exact _ _ sorted c.args.better.now clauses h) c.clauses_of_ascending.ensures.exact;
    }
