use Rattle.std.proofs.Common.{◌≡◌, ◌++◌, map, take}
use Rattle.repair_clauses.specs.BaseClauses.{absent}
use Rattle.repair_encoder.proofs.literals.push_absent.Given as goal

abbrev pub invariant-loop-fact : goal.invariant-loop-fact
invariant-loop-fact l = l.clause ≡ l.initial.clause ++ map absent (take l.fact-index l.facts)
