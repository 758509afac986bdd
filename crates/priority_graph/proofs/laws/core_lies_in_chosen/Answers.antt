use Rattle.priority_graph.proofs.ChosenLemmas.{core_lies_in_chosen}
use Rattle.priority_graph.proofs.laws.core_lies_in_chosen.Goals as goal

pub returns : goal.returns
returns c = record { inside = core_lies_in_chosen }
