use Rattle.priority_graph.proofs.InputLemmas.{direct_tells}
use Rattle.priority_graph.proofs.laws.direct_tells_cores.Goals as goal

pub returns : goal.returns
returns c = record { cores = direct_tells }
