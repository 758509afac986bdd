use Rattle.std.proofs.Common.{ℕ, List, [], take, Contains}
use Rattle.clause_meaning.specs.Refutation.{IsWithin}
use Rattle.rup_check.specs.Slots.{IsAt}
use Rattle.rup_check.proofs.clauses.Clauses.has_within.Given as goal

abbrev pub invariant-loop-literal : goal.invariant-loop-literal
invariant-loop-literal l = record {
  empty : (n : ℕ) → IsAt l.self.slots n [] → ⊥;
  none : (k n : ℕ) (c : List ℕ) → Contains (take l.literal-index l.clause) k → IsAt l.self.slots n c → Contains c k → IsWithin c l.clause → ⊥;
}
