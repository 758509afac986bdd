use Rattle.priority_graph.proofs.InputLemmas.{empty_is_all}
use Rattle.priority_graph.proofs.laws.empty_is_all.Goals as goal

pub returns : goal.returns
returns c = record { all = empty_is_all }
