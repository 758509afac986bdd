use Rattle.std.proofs.Common.{ℕ, ◌<◌, get_or}
use Rattle.cq_terms.specs.declared.facts.Repairs.{Repairs}
use Rattle.cq_terms.specs.Knowledge.{Knowledge}
use Rattle.cq_meaning.specs.ConflictGraphs.{AreConflictsOf}
use Rattle.priority_graph.specs.Inputs.{IsPriorityOf}
use Rattle.plain_finding.specs.EasyParts.{HasRivalCore}
use Rattle.plain_finding.proofs.direct.has_rival_core_of_one.Given as goal

abbrev pub invariant-loop-fact : goal.invariant-loop-fact
invariant-loop-fact l = (kb : Knowledge) (mode : Repairs) → AreConflictsOf kb l.conflicts → IsPriorityOf kb mode l.better → (k : ℕ)
    → k < l.fact-index → ¬ HasRivalCore kb mode (get_or l.facts k 0)
