use Rattle.priority_graph.proofs.InputLemmas.{rank_as_pareto}
use Rattle.priority_graph.proofs.laws.pairs_rank_as_pareto.Goals as goal

pub returns : goal.returns
returns c = record { ranks = rank_as_pareto }
