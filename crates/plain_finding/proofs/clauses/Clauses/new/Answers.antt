use Rattle.std.proofs.Common.{ap}
use Rattle.rup_check.specs.State.{State}
use Rattle.plain_finding.proofs.InsideLemmas.{holds_none}
use Rattle.plain_finding.proofs.clauses.Clauses.new.Goals as goal

pub returns-clause-none : goal.returns-clause-none
returns-clause-none c = rw (c.new-2.ensures.items, c.new-3.ensures.items)
    (holds_none c.args.variables 0 c.in_ok-new.field-0 (ap (λ (s : State). s.live) c.in_ok-new.ensures.exact))
