use Rattle.priority_graph.proofs.InputLemmas.{restricted_is_pareto}
use Rattle.priority_graph.proofs.laws.restricted_is_pareto.Goals as goal

pub returns : goal.returns
returns c = record { pareto = restricted_is_pareto }
