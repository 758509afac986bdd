-- The laws of conflicts: the clashes of a table are what the conflict lines have to tell, and what a priority is over.
use Rattle.std.specs.Prelude.{List, ℕ, map}
use Rattle.cq_terms.specs.declared.hits.Clash.{Clash}
use Rattle.cq_terms.specs.Conflicts.{ConflictGraph, AreClashes}
use Rattle.cq_terms.specs.Knowledge.{Knowledge}
use Rattle.cq_terms.specs.declared.facts.Repairs.{Repairs}
use Rattle.priority_graph.specs.Priority.{Priority, IsOver}
use Rattle.priority_graph.specs.Inputs.{IsPriorityOf}
use Rattle.cq_meaning.specs.ConflictGraphs.{AreConflictsOf}
use Rattle.report_rules.specs.ConflictLists.{AreConflictLists}

-- the facts of each clash, in their order
abbrev pub facts_told : List Clash → List (List ℕ)
facts_told clashes = map (λ (c : Clash). c.facts) clashes

-- ordered clashes that are the conflicts of a knowledge base tell its conflicts in the order of the lines
abbrev pub ClashesAreConflictLists : Type 0
ClashesAreConflictLists = (kb : Knowledge) (g : ConflictGraph) → AreConflictsOf kb g → AreClashes g.facts g.clashes
    → AreConflictLists kb (facts_told g.clashes)

-- where the priority of a knowledge base is over conflicts, these are those of the knowledge base
abbrev pub PriorityTellsConflicts : Type 0
PriorityTellsConflicts = (kb : Knowledge) (mode : Repairs) (p : Priority) (g : ConflictGraph) → IsPriorityOf kb mode p → IsOver p g
    → AreConflictsOf kb g
