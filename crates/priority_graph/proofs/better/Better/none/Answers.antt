use Rattle.priority_graph.proofs.RestrictLemmas.{none_better, none_acyclic}
use Rattle.priority_graph.proofs.better.Better.none.Goals as goal

pub returns-in-Ok-clause-exact : goal.returns-in-Ok-clause-exact
returns-in-Ok-clause-exact c i j b = none_better c.args.conflicts.now i j ((c.in-Ok.ensures.exact i j).0 b)

pub unreachable-requires : goal.unreachable-requires
unreachable-requires c =
    let refused = rw c.in-Err-Cycle.field-0-is at c.in-Err-Cycle.ensures.cycle in
    refused.1 (none_acyclic c.args.conflicts.now)
