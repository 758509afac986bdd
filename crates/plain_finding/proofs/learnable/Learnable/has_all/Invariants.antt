use Rattle.std.proofs.Common.{ℕ, ◌<◌, get_or, IsTrue}
use Rattle.report_laws.specs.ComponentLaws.{may_learn}
use Rattle.plain_finding.proofs.learnable.Learnable.has_all.Given as goal

abbrev pub invariant-loop-literal : goal.invariant-loop-literal
invariant-loop-literal l = (k : ℕ) → k < l.literal-index → IsTrue (may_learn l.selector l.self (get_or l.clause k 0))
