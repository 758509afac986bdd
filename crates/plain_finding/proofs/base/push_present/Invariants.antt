use Rattle.std.proofs.Common.{◌≡◌, ◌++◌, map, take}
use Rattle.repair_clauses.specs.BaseClauses.{present}
use Rattle.plain_finding.proofs.base.push_present.Given as goal

abbrev pub invariant-loop-fact : goal.invariant-loop-fact
invariant-loop-fact l = l.clause.items ≡ l.initial.clause.items ++ map present (take l.fact-index l.facts)
