-- Breadth-first search of a closure: its order, a closure with too many members, and what a closure tells.
use Rattle.std.specs.Prelude.{◌≡◌, ◌≢◌, ℕ, ◌<◌, ◌⊎◌, ◌↔◌, List, slice_get, Some, Contains}
use Rattle.cq_terms.specs.declared.axioms.Axiom.{Axiom}
use Rattle.cq_terms.specs.declared.facts.Fact.{Fact}
use Rattle.cq_terms.specs.Lists.{HasMore}
use Rattle.cq_terms.specs.Query.{Query}
use Rattle.cq_meaning.specs.Entailment.{Entails, Match}
use Rattle.cq_meaning.specs.Rewriting.{IsInClosure}
use Rattle.cq_steps.specs.declared.moves.Move.{Move}
use Rattle.cq_steps.specs.declared.closure.Member.{Member}
use Rattle.cq_steps.specs.Moves.{IsMove, IsBefore}

-- a step from an earlier member, or by an earlier move from the same
abbrev pub IsEarlier : ℕ × Move → ℕ × Move → Type 0
IsEarlier a b = (a.0 < b.0) ⊎ ((a.0 ≡ b.0) × IsBefore a.1 b.1)

-- the steps ascend, and each query was found by the first move that leads to it
pub record IsBreadthFirst (axioms : List Axiom) (members : List Member) : Type 0 where
  pub ascending : (i j : ℕ) (m n : Member) (a b : ℕ × Move) → i < j → slice_get members i ≡ Some m → slice_get members j ≡ Some n
      → m.step ≡ Some a → n.step ≡ Some b → IsEarlier a b
  pub earliest : (i l : ℕ) (m p : Member) (a : ℕ × Move) (t : Move) → slice_get members i ≡ Some m → m.step ≡ Some a → IsEarlier (l, t) a
      → slice_get members l ≡ Some p → ¬ IsMove axioms p.query t m.query

-- the closure of the query has more members than this
abbrev pub HasMoreThan : List Axiom → Query → ℕ → Type 0
HasMoreThan axioms q limit = HasMore (λ p r. p ≢ r) (IsInClosure axioms q) limit

-- any list of facts entails a tuple exactly where some member matches in it with that tuple
abbrev pub MatchesTell : List Axiom → Query → List Member → Type 0
MatchesTell axioms q members = (facts : List Fact) (tuple : List ℕ) → Entails axioms (Contains facts) q tuple
    ↔ ((m : Member) × (image : List Fact) × Contains members m × Match m.query (Contains facts) tuple image)
