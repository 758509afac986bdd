use Rattle.std.proofs.Common.{ℕ, ◌<◌, Contains, get_or}
use Rattle.cq_terms.specs.Query.{Query}
use Rattle.cq_steps.specs.declared.moves.Move.{Move}
use Rattle.report_parts.proofs.moves.has_successors.Given as goal

-- each result so far is in the block
abbrev pub invariant-loop-result : goal.invariant-loop-result
invariant-loop-result l = (k : ℕ) (d : Move × Query) → k < l.result-index → Contains l.block.members ((get_or l.result-items k d).1)
