use Rattle.repair_clauses.proofs.LawLemmas.{closed_sets_separate}
use Rattle.repair_clauses.proofs.laws.closed_sets_separate_clauses.Goals as goal

pub returns : goal.returns
returns c = closed_sets_separate
