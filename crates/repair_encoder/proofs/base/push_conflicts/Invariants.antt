use Rattle.std.proofs.Common.{◌≡◌, ◌++◌, take}
use Rattle.repair_encoder.specs.Forms.{conflict_clauses}
use Rattle.repair_encoder.proofs.base.push_conflicts.Given as goal

abbrev pub invariant-loop-rival : goal.invariant-loop-rival
invariant-loop-rival l = l.clauses ≡ l.initial.clauses ++ conflict_clauses l.fact (take l.rival-index l.rivals)
