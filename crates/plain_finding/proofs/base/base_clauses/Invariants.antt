use Rattle.std.proofs.Common.{◌≡◌, ℕ, List, []}
use Rattle.report_laws.specs.LiveLists.{AreClausesBelow}
use Rattle.plain_finding.specs.Kept.{Holds}
use Rattle.plain_finding.proofs.base.base_clauses.Given as goal

abbrev pub invariant-loop-fact : goal.invariant-loop-fact
invariant-loop-fact l = record {
  variables : l.clauses.variables ≡ l.variables;
  base : List (List ℕ);
  below : AreClausesBelow l.better l.fact base;
  holds : Holds l.clauses base [] [];
}
