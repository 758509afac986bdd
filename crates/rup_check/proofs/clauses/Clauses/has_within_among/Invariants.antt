use Rattle.std.proofs.Common.{ℕ, List, take, Contains}
use Rattle.clause_meaning.specs.Refutation.{IsWithin}
use Rattle.rup_check.specs.Slots.{IsAt}
use Rattle.rup_check.proofs.clauses.Clauses.has_within_among.Given as goal

abbrev pub invariant-loop-number : goal.invariant-loop-number
invariant-loop-number l = (n : ℕ) (c : List ℕ) → Contains (take l.number-index l.numbers) n → IsAt l.self.slots n c → IsWithin c l.clause → ⊥
