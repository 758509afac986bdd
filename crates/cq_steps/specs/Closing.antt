-- When a list of members is the closure of a query.
use Rattle.std.specs.Prelude.{◌≡◌, ℕ, List, map, slice_get, Some, Any, Contains}
use Rattle.cq_terms.specs.declared.axioms.Axiom.{Axiom}
use Rattle.cq_terms.specs.Query.{Query}
use Rattle.cq_meaning.specs.NormalForm.{normal}
use Rattle.cq_meaning.specs.Rewriting.{IsInClosure, IsClosure}
use Rattle.cq_steps.specs.declared.moves.Move.{Move}
use Rattle.cq_steps.specs.declared.closure.Member.{Member}
use Rattle.cq_steps.specs.Moves.{IsMove}
use Rattle.cq_steps.specs.Derivation.{IsDerivation}

-- the queries of the members
abbrev pub queries_of : List Member → List Query
queries_of members = map (λ m. m.query) members

-- the query is that of a member
abbrev pub IsQueryOf : List Member → Query → Type 0
IsQueryOf members q = Any (λ m. m.query ≡ q) members

-- the first member is the normal form of the query, and each other member is the result of its step
pub record AreDerived (axioms : List Axiom) (q : Query) (members : List Member) : Type 0 where
  pub first : (m : Member) × (slice_get members 0 ≡ Some m) × (m.query ≡ normal q)
  pub steps : (i k : ℕ) (m : Member) (s : Move) → slice_get members i ≡ Some m → m.step ≡ Some (k, s)
      → (p : Member) × (slice_get members k ≡ Some p) × IsMove axioms p.query s m.query

-- each result of a move on a member is a member
abbrev pub IsClosed : List Axiom → List Member → Type 0
IsClosed axioms members = (m : Member) (s : Move) (q : Query) → Contains members m → IsMove axioms m.query s q → IsQueryOf members q

-- the first member is the normal form of the query, each other member is the result of its step, and every successor of a member is a member
pub record Closes (axioms : List Axiom) (q : Query) (members : List Member) : Type 0 where
  pub derived : AreDerived axioms q members
  pub closed : IsClosed axioms members

-- the queries of such a list are exactly those of the closure
abbrev pub ClosingListIsClosure : Type 0
ClosingListIsClosure = (axioms : List Axiom) (q : Query) (members : List Member) → IsDerivation members → Closes axioms q members
    → IsClosure axioms q (queries_of members)

-- the queries of a list in which each other member is the result of its step are in the closure
abbrev pub DerivedIsInClosure : Type 0
DerivedIsInClosure = (axioms : List Axiom) (q : Query) (members : List Member) → IsDerivation members → AreDerived axioms q members
    → (m : Member) → Contains members m → IsInClosure axioms q m.query
