-- The laws on rewriting that the crate's functions prove.
use Rattle.std.specs.Prelude.{◌≡◌, ℕ, ◌<◌, ◌↔◌, List, [], ◌∷◌, All, Contains, Some, Bool}
use Rattle.cq_terms.specs.declared.axioms.Axiom.{Axiom}
use Rattle.cq_terms.specs.declared.facts.Fact.{Fact}
use Rattle.cq_terms.specs.Knowledge.{Knowledge, AreDistinct}
use Rattle.cq_terms.specs.Query.{Query}
use Rattle.cq_meaning.specs.Candidates.{Every, IsCause}
use Rattle.cq_meaning.specs.Chase.{Consistent}
use Rattle.cq_meaning.specs.Conflicts.{In, AreConsistent, FactsEntail, IsSelfInconsistent, Conflict, AreConflicts}
use Rattle.cq_meaning.specs.Entailment.{Entails, Match}
use Rattle.cq_terms.specs.Lists.{IsAscending}
use Rattle.cq_meaning.specs.NormalForm.{IsNormalForm, normal}
use Rattle.cq_meaning.specs.Rewriting.{IsInClosure, IsClosure, IsSupport, disjointness_query}

-- the counted rounds reach the normal form
abbrev pub NormalIsReached : Type 0
NormalIsReached = (q : Query) → IsNormalForm q (normal q)

-- no query has two normal forms
abbrev pub NormalIsUnique : Type 0
NormalIsUnique = (q p p' : Query) → IsNormalForm q p → IsNormalForm q p' → p ≡ p'

-- a query in normal form is its own
abbrev pub NormalAgain : Type 0
NormalAgain = (q : Query) → normal (normal q) ≡ normal q

-- what a query of the closure matches is entailed
abbrev pub MatchIsEntailed : Type 0
MatchIsEntailed = (axioms : List Axiom) (q member : Query) → IsInClosure axioms q member → (facts : List Fact) (tuple : List ℕ) (image : List Fact)
    → Match member (Contains facts) tuple image → Entails axioms (Contains facts) q tuple

-- what is entailed, some query of the closure matches
abbrev pub EntailedHasMatch : Type 0
EntailedHasMatch = (axioms : List Axiom) (q : Query) (facts : List Fact) (tuple : List ℕ) → Entails axioms (Contains facts) q tuple
    → (member : Query) × (image : List Fact) × IsInClosure axioms q member × Match member (Contains facts) tuple image

-- the queries of a closure match exactly what is entailed
abbrev pub ClosureIsExact : Type 0
ClosureIsExact = (axioms : List Axiom) (q : Query) (members : List Query) → IsClosure axioms q members → (facts : List Fact) (tuple : List ℕ)
    → Entails axioms (Contains facts) q tuple ↔ ((member : Query) × (image : List Fact) × Contains members member × Match member (Contains facts) tuple image)

-- every query has a closure
abbrev pub ClosureExists : Type 0
ClosureExists = (axioms : List Axiom) (q : Query) → (members : List Query) × IsClosure axioms q members

-- a part of a table entails a tuple exactly where it has a support of it
abbrev pub EntailedBySupports : Type 0
EntailedBySupports = (kb : Knowledge) → AreDistinct kb.facts → (S : ℕ → Bool) (q : Query) (tuple : List ℕ)
    → FactsEntail kb (In S) q tuple ↔ ((numbers : List ℕ) × IsSupport kb q tuple numbers × All (In S) numbers)

-- a table entails a tuple exactly where there is a support of it
abbrev pub CandidatesHaveSupports : Type 0
CandidatesHaveSupports = (kb : Knowledge) (q : Query) (tuple : List ℕ)
    → FactsEntail kb Every q tuple ↔ ((numbers : List ℕ) × IsSupport kb q tuple numbers)

-- the causes of a tuple are its consistent supports that contain no smaller support
abbrev pub CausesAreSupports : Type 0
CausesAreSupports = (kb : Knowledge) → AreDistinct kb.facts → (q : Query) (tuple numbers : List ℕ) → IsAscending numbers
    → IsCause kb q tuple (Contains numbers) ↔ (IsSupport kb q tuple numbers × AreConsistent kb (Contains numbers)
    × ((smaller : List ℕ) → IsSupport kb q tuple smaller → All (Contains numbers) smaller → smaller ≡ numbers))

-- a set of facts is consistent exactly where it entails the query of no disjointness
abbrev pub ConsistentByQueries : Type 0
ConsistentByQueries = (axioms : List Axiom) (facts : List Fact) → Consistent axioms (Contains facts)
    ↔ ((rule : Axiom) (q : Query) → Contains axioms rule → disjointness_query rule ≡ Some q → ¬ Entails axioms (Contains facts) q [])

-- the same for a part of a table
abbrev pub ConsistentByQueriesInTable : Type 0
ConsistentByQueriesInTable = (kb : Knowledge) (S : ℕ → Bool) → AreConsistent kb (In S)
    ↔ ((rule : Axiom) (q : Query) → Contains kb.axioms rule → disjointness_query rule ≡ Some q → ¬ FactsEntail kb (In S) q [])

-- the facts are those onto which a query of the closure of a disjointness matches
abbrev pub IsForbidden : Knowledge → List ℕ → Type 0
IsForbidden kb numbers = (rule : Axiom) × (q : Query) × Contains kb.axioms rule × (disjointness_query rule ≡ Some q) × IsSupport kb q [] numbers

-- a fact is self-inconsistent exactly where it is forbidden by itself
abbrev pub SelfInconsistentIsForbidden : Type 0
SelfInconsistentIsForbidden = (kb : Knowledge) → AreDistinct kb.facts → (i : ℕ) → IsSelfInconsistent kb i ↔ IsForbidden kb (i ∷ [])

-- two facts conflict exactly where neither is self-inconsistent and the two are forbidden together
abbrev pub ConflictIsForbidden : Type 0
ConflictIsForbidden = (kb : Knowledge) → AreDistinct kb.facts → (i j : ℕ) → i < j
    → Conflict kb i j ↔ ((¬ IsForbidden kb (i ∷ [])) × (¬ IsForbidden kb (j ∷ [])) × IsForbidden kb (i ∷ j ∷ []))

-- over the exact lists of conflicts, a set is consistent exactly where it has no fact of the one and no pair of the other
abbrev pub ConsistentByLists : Type 0
ConsistentByLists = (kb : Knowledge) (owns : List ℕ) (pairs : List (ℕ × ℕ)) → AreConflicts kb owns pairs → (S : ℕ → Bool)
    → AreConsistent kb (In S) ↔ (All (λ i. ¬ In S i) owns × All (λ p. ¬ (In S p.0 × In S p.1)) pairs)
