use Rattle.std.proofs.Common.{◌≡◌, ℕ, ◌<◌, get_or}
use Rattle.repair_clauses.specs.BaseClauses.{present}
use Rattle.report_parts.proofs.assumptions.are_present.Given as goal

abbrev pub invariant-loop-place : goal.invariant-loop-place
invariant-loop-place l = (k : ℕ) → k < l.place → get_or l.literals k 0 ≡ present (get_or l.facts k 0)
