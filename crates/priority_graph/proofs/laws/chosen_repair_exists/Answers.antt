use Rattle.priority_graph.proofs.ChosenLemmas.{chosen_exists}
use Rattle.priority_graph.proofs.laws.chosen_repair_exists.Goals as goal

pub returns : goal.returns
returns c = record { exists = chosen_exists }
