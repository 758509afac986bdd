use Rattle.std.proofs.Common.{ℕ, ◌<◌, Contains, get_or}
use Rattle.answer_evidence.proofs.fact_set.FactSet.has_all.Given as goal

abbrev pub invariant-loop-fact : goal.invariant-loop-fact
invariant-loop-fact l = (k : ℕ) → k < l.fact-index → Contains l.self (get_or l.facts k 0)
