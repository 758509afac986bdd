-- Conflicts of a table as facts that are self-inconsistent and pairs of facts, beside those of a knowledge base.
use Rattle.std.specs.Prelude.{◌≡◌, length}
use Rattle.cq_terms.specs.Conflicts.{ConflictGraph, own_facts, couples}
use Rattle.cq_terms.specs.Knowledge.{Knowledge}
use Rattle.cq_meaning.specs.Conflicts.{AreConflicts}

-- the conflicts are exactly those of the knowledge base
pub record AreConflictsOf (kb : Knowledge) (g : ConflictGraph) : Type 0 where
  pub facts : g.facts ≡ length kb.facts
  pub exact : AreConflicts kb (own_facts g.clashes) (couples g.clashes)
