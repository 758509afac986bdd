use Rattle.std.proofs.Common.{take}
use Rattle.cq_terms.specs.ConflictTables.{AreMarks}
use Rattle.cq_terms.proofs.conflicts.own_marks.Given as goal

abbrev pub invariant-loop-clash : goal.invariant-loop-clash
invariant-loop-clash l = AreMarks l.facts (take l.clash-index l.clashes) l.marks.items
