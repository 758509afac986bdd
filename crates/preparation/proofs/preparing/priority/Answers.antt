use Rattle.std.proofs.lemmas.Result.{err_from_is_err_and}
use Rattle.priority_graph.proofs.InputLemmas.{rank_as_pareto, restricted_is_pareto, empty_is_all}
use Rattle.preparation.proofs.CycleWidening.{all_acyclic}
use Rattle.preparation.proofs.PreparedLemmas.{priority_refused}
use Rattle.preparation.proofs.preparing.priority.Goals as goal

pub returns-in_err-restrict-in-Pareto-clause-refused : goal.returns-in_err-restrict-in-Pareto-clause-refused
returns-in_err-restrict-in-Pareto-clause-refused c =
    let (y, is, same) = err_from_is_err_and c.from_residual-in_err-restrict-in-Pareto.result c.from_residual-in_err-restrict-in-Pareto.ensures.1 in
    rw (is, same, c.in-Pareto.is) (priority_refused c.args.kb.now c.args.conflicts.now c.requires.conflicts c.in_err-restrict-in-Pareto.field-0.0
    (rw c.pairs.ensures.lent at c.in_err-restrict-in-Pareto.ensures.cycle))

pub returns-in_ok-none-in-All-clause-exact : goal.returns-in_ok-none-in-All-clause-exact
returns-in_ok-none-in-All-clause-exact c = rw c.in-All.is (empty_is_all c.args.kb.now c.args.conflicts.now c.in_ok-none-in-All.field-0 c.requires.conflicts
    c.in_ok-none-in-All.ensures.over c.in_ok-none-in-All.ensures.exact)

pub returns-in_ok-none-in-All-clause-acyclic : goal.returns-in_ok-none-in-All-clause-acyclic
returns-in_ok-none-in-All-clause-acyclic c = rw c.in-All.is (all_acyclic c.args.kb.now)

pub returns-in_ok-restrict-in-Pareto-clause-exact : goal.returns-in_ok-restrict-in-Pareto-clause-exact
returns-in_ok-restrict-in-Pareto-clause-exact c = rw c.in-Pareto.is (restricted_is_pareto c.args.kb.now c.args.conflicts.now
    c.in_ok-restrict-in-Pareto.field-0 c.requires.conflicts c.in_ok-restrict-in-Pareto.ensures.over
    (rw c.pairs.ensures.lent at c.in_ok-restrict-in-Pareto.ensures.exact))

pub returns-in_ok-restrict-in-Pareto-clause-acyclic : goal.returns-in_ok-restrict-in-Pareto-clause-acyclic
returns-in_ok-restrict-in-Pareto-clause-acyclic c = rw c.in-Pareto.is ((rank_as_pareto c.args.kb.now c.args.conflicts.now c.requires.conflicts).acyclic.0
    (rw c.pairs.ensures.lent at c.in_ok-restrict-in-Pareto.ensures.acyclic))
