use Rattle.std.proofs.Common.{◌≡◌, take, filter, not}
use Rattle.priority_graph.specs.Split.{has}
use Rattle.plain_finding.proofs.clauses.forget_each.Given as goal

abbrev pub invariant-loop-number : goal.invariant-loop-number
invariant-loop-number l = l.checker
    ≡ record l.initial.checker { live = filter (λ e. not (has (take l.number-index l.numbers) e.number)) l.initial.checker.live }
