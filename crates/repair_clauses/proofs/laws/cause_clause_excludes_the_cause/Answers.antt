use Rattle.repair_clauses.proofs.LawLemmas.{cause_is_excluded}
use Rattle.repair_clauses.proofs.laws.cause_clause_excludes_the_cause.Goals as goal

pub returns : goal.returns
returns c = cause_is_excluded
