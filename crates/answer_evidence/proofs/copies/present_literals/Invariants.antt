use Rattle.std.proofs.Common.{◌≡◌, map, take}
use Rattle.repair_clauses.specs.BaseClauses.{present}
use Rattle.answer_evidence.proofs.copies.present_literals.Given as goal

abbrev pub invariant-loop-fact : goal.invariant-loop-fact
invariant-loop-fact l = l.literals ≡ map present (take l.fact-index l.facts)
