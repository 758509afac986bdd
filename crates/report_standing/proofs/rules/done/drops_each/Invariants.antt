use Rattle.std.proofs.Common.{◌≡◌, true, take}
use Rattle.std.specs.List.{list_all}
use Rattle.clause_meaning.specs.Literals.{variable_of}
use Rattle.priority_graph.specs.Split.{has}
use Rattle.report_standing.proofs.rules.done.drops_each.Given as goal

abbrev pub invariant-loop-literal : goal.invariant-loop-literal
invariant-loop-literal l = list_all (λ x. has l.core.dropped (variable_of x)) (take l.literal-index l.literals) ≡ true
