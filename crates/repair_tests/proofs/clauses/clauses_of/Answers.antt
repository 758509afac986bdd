use Rattle.repair_tests.proofs.clauses.clauses_of.Goals as goal

pub base_clauses-requires-clause-closed : goal.base_clauses-requires-clause-closed
base_clauses-requires-clause-closed c = rw c.as_slice.ensures.lent c.in_ok-facts.ensures.closed
