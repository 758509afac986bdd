use Rattle.std.proofs.Common.{◌-◌, List}
use Rattle.proof_logs.specs.Logs.{Learned}
use Rattle.cdcl_core.specs.Seeking.{bare}
use Rattle.cdcl_core.proofs.Runs.{RunHolds}
use Rattle.cdcl_core.proofs.seek.seek.Given as goal

abbrev pub invariant-loop-clause : goal.invariant-loop-clause
invariant-loop-clause g l = (entries : List Learned)
    × RunHolds (bare l.fn.store) l.scope l.assume l.fn.budget l.budget (g.L.ProofLog.content l.fn.log) (g.L.ProofLog.content l.log)
    (g.L.ProofLog.faults l.fn.log) (g.L.ProofLog.faults l.log) l.store l.assumed entries
    × g.L.ProofLog.leads l.fn.log l.log

abbrev pub decreases-loop-clause : goal.decreases-loop-clause
decreases-loop-clause g l = l.budget.limit - l.budget.used
