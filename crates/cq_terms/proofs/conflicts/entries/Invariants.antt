use Rattle.std.proofs.Common.{◌≡◌, take}
use Rattle.cq_terms.specs.ConflictTables.{conflict_entries}
use Rattle.cq_terms.proofs.conflicts.entries.Given as goal

abbrev pub invariant-loop-clash : goal.invariant-loop-clash
invariant-loop-clash l = l.entries.items ≡ conflict_entries (take l.clash-index l.clashes)
