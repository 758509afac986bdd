use Rattle.std.proofs.Common.{◌≡◌, All, take}
use Rattle.matching_tests.proofs.tables.has.Given as goal

abbrev pub invariant-loop-known : goal.invariant-loop-known
invariant-loop-known l = All (λ f. f ≡ l.fact → ⊥) (take l.known-index l.facts)
