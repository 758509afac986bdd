use Rattle.std.proofs.Common.{ℕ, ◌<◌, Contains, get_or}
use Rattle.cq_terms.specs.Query.{Query}
use Rattle.cq_meaning.specs.Rewriting.{IsSuccessor}
use Rattle.report_parts.proofs.moves.is_closed.Given as goal

-- the results of the moves on each query so far are in the block
abbrev pub invariant-loop-member : goal.invariant-loop-member
invariant-loop-member l = (k : ℕ) (d : Query) → k < l.member-index → (q : Query) → IsSuccessor l.axioms (get_or l.member-items k d) q
    → Contains l.block.members q
