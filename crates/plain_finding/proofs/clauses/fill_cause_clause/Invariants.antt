use Rattle.std.proofs.Common.{◌≡◌, map, take}
use Rattle.repair_clauses.specs.BaseClauses.{absent}
use Rattle.plain_finding.proofs.clauses.fill_cause_clause.Given as goal

abbrev pub invariant-loop-fact : goal.invariant-loop-fact
invariant-loop-fact l = l.clause.items ≡ map absent (take l.fact-index l.cause)
