use Rattle.std.proofs.Common.{◌≡◌, ℕ, List, [], map, take}
use Rattle.repair_clauses.specs.CauseClauses.{cause_clause}
use Rattle.plain_finding.specs.Kept.{Holds}
use Rattle.plain_finding.proofs.clauses.Clauses.open.Given as goal

abbrev pub invariant-loop-cause : goal.invariant-loop-cause
invariant-loop-cause l = record {
  same : l.self.variables ≡ l.initial.self.variables;
  exact : (base learned : List (List ℕ)) → Holds l.initial.self base [] learned
      → Holds l.self base (map (cause_clause l.selector) (take l.cause-index l.causes)) learned;
}
