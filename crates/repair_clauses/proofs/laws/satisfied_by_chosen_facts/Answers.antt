use Rattle.repair_clauses.proofs.LawLemmas.{satisfied_by_chosen_within}
use Rattle.repair_clauses.proofs.laws.satisfied_by_chosen_facts.Goals as goal

pub returns : goal.returns
returns c = satisfied_by_chosen_within
