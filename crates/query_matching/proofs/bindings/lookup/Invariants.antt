use Rattle.std.proofs.Common.{◌≡◌, All, take}
use Rattle.query_matching.proofs.bindings.lookup.Given as goal

abbrev pub invariant-loop-binding : goal.invariant-loop-binding
invariant-loop-binding l = All (λ b. b.variable ≡ l.variable → ⊥) (take l.binding-index l.bindings)
