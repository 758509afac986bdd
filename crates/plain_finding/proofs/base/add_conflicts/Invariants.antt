use Rattle.std.proofs.Common.{◌≡◌, ℕ, List, [], ◌++◌, take}
use Rattle.plain_finding.specs.BaseParts.{conflict_clauses}
use Rattle.plain_finding.specs.Kept.{Holds}
use Rattle.plain_finding.proofs.base.add_conflicts.Given as goal

abbrev pub invariant-loop-rival : goal.invariant-loop-rival
invariant-loop-rival l = record {
  same : l.clauses.variables ≡ l.initial.clauses.variables;
  exact : (base : List (List ℕ)) → Holds l.initial.clauses base [] []
      → Holds l.clauses (base ++ conflict_clauses l.fact (take l.rival-index l.rivals)) [] [];
}
