use Rattle.report_parts.proofs.OrderLemmas.{RisesTo}
use Rattle.report_parts.proofs.lists.ascend.Given as goal

abbrev pub invariant-loop-place : goal.invariant-loop-place
invariant-loop-place l = RisesTo (λ n. n) l.numbers l.place
