use Rattle.repair_clauses.proofs.LawLemmas.{of_table, satisfied_by_chosen}
use Rattle.repair_clauses.proofs.laws.satisfied_by_chosen_repairs.Goals as goal

pub returns : goal.returns
returns c p h = satisfied_by_chosen p (of_table p h)
