use Rattle.std.proofs.Common.{ℕ, ◌<◌, get_or, [], ◌∷◌}
use Rattle.cq_terms.specs.declared.facts.Repairs.{Repairs}
use Rattle.cq_terms.specs.Knowledge.{Knowledge}
use Rattle.cq_meaning.specs.ConflictGraphs.{AreConflictsOf}
use Rattle.priority_graph.specs.Inputs.{IsPriorityOf}
use Rattle.report_rules.specs.TryRules.{HasDirectCore}
use Rattle.plain_finding.proofs.direct.has_rival_core.Given as goal

abbrev pub invariant-loop-rival : goal.invariant-loop-rival
invariant-loop-rival l = (kb : Knowledge) (mode : Repairs) → AreConflictsOf kb l.conflicts → IsPriorityOf kb mode l.better → (k : ℕ)
    → k < l.rival-index → ¬ HasDirectCore kb mode (get_or l.rival-items k 0 ∷ [])
