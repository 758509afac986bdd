use Rattle.std.proofs.Common.{◌≡◌, map, take, filter, ltb}
use Rattle.clause_meaning.specs.Literals.{variable_of}
use Rattle.plain_finding.proofs.direct.facts_in_table.Given as goal

abbrev pub invariant-loop-literal : goal.invariant-loop-literal
invariant-loop-literal l = l.known.items ≡ filter (λ i. ltb i l.facts) (map variable_of (take l.literal-index l.literals))
