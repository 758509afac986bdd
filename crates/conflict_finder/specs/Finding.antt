-- What the conflict finder answers: closures, the facts that their members show, and limits that are passed.
use Rattle.std.specs.Prelude.{◌≡◌, ◌≢◌, ℕ, ◌<◌, ◌≤◌, ◌⊎◌, List, [], ◌∷◌, length, All, AllPairs, Contains, slice_get, Option, Some, None}
use Rattle.cq_terms.specs.declared.axioms.Axiom.{Axiom}
use Rattle.cq_terms.specs.declared.facts.Fact.{Fact}
use Rattle.cq_terms.specs.Knowledge.{Knowledge}
use Rattle.cq_terms.specs.Lists.{HasMore}
use Rattle.cq_terms.specs.Query.{Query}
use Rattle.cq_meaning.specs.Conflicts.{IsSelfInconsistent, Conflict}
use Rattle.cq_meaning.specs.Entailment.{HasImage}
use Rattle.cq_meaning.specs.Rewriting.{disjointness_query}
use Rattle.cq_steps.specs.declared.closure.Member.{Member}
use Rattle.cq_steps.specs.Closing.{Closes}
use Rattle.cq_steps.specs.Derivation.{IsDerivation}
use Rattle.join_eval.specs.declared.refusal.JoinRefusal.{JoinRefusal}
use Rattle.join_eval.specs.declared.refusal.JoinRefusal.TheVariants as join
use Rattle.conflict_finder.specs.declared.refusal.FindRefusal.{FindRefusal}
use Rattle.conflict_finder.specs.declared.refusal.FindRefusal.TheVariants as refusal
use Rattle.perfect_ref.specs.BreadthFirst.{HasMoreThan}

-- the axiom of the number is a disjointness, and this is its query
abbrev pub Forbids : List Axiom → ℕ → Query → Type 0
Forbids axioms n q = (rule : Axiom) × (slice_get axioms n ≡ Some rule) × (disjointness_query rule ≡ Some q)

-- the closure of each disjointness, once, with the number of the axiom, ascending. The order of the members is left to the
-- list: the place of a member, and which one is the least, are by the list that is answered
pub record AreClosures (axioms : List Axiom) (closures : List (ℕ × List Member)) : Type 0 where
  pub each : All (λ c. (q : Query) × Forbids axioms c.0 q × Closes axioms q c.1) closures
  pub complete : (n : ℕ) (q : Query) → Forbids axioms n q → (members : List Member) × Contains closures (n, members)
  pub ascending : AllPairs (λ c d. c.0 < d.0) closures

-- the member at a place of the closure of the axiom matches with exactly the facts of these numbers
abbrev pub Shows : List Fact → List (ℕ × List Member) → ℕ → ℕ → List ℕ → Type 0
Shows facts closures n place numbers = (members : List Member) × (m : Member) × Contains closures (n, members) × (slice_get members place ≡ Some m)
    × HasImage facts m.query [] numbers

-- it does, and no member of a lesser axiom and no member at a lesser place in the list of this one does
pub record IsShownFirst (facts : List Fact) (closures : List (ℕ × List Member)) (numbers : List ℕ) (n place : ℕ) : Type 0 where
  pub shown : Shows facts closures n place numbers
  pub least : (m p : ℕ) → Shows facts closures m p numbers → (n < m) ⊎ ((n ≡ m) × (place ≤ p))

-- a self-inconsistent fact, or two facts in conflict, the lesser first
abbrev pub IsConflict : Knowledge → List ℕ → Type 0
IsConflict kb [] = ⊥
IsConflict kb (i ∷ []) = (i < length kb.facts) × IsSelfInconsistent kb i
IsConflict kb (i ∷ j ∷ []) = (i < j) × Conflict kb i j
IsConflict kb (i ∷ j ∷ l ∷ numbers) = ⊥

-- there are more sets of numbers that have P than the limit: some list of them, each once, is longer
abbrev pub HasMoreSets : (List ℕ → Type 0) → ℕ → Type 0
HasMoreSets P limit = HasMore (λ a b. a ≢ b) P limit

-- the self-inconsistent facts and the pairs in conflict together are more than so many
abbrev pub HasMoreConflicts : Knowledge → ℕ → Type 0
HasMoreConflicts kb limit = HasMoreSets (IsConflict kb) limit

-- the axiom is the first disjointness whose closure has more members than the limit
pub record IsFirstTooLarge (axioms : List Axiom) (limit n : ℕ) : Type 0 where
  pub query : Query
  pub forbids : Forbids axioms n query
  pub larger : HasMoreThan axioms query limit
  pub earlier : (m : ℕ) (q : Query) → m < n → Forbids axioms m q → ¬ HasMoreThan axioms q limit

-- no disjointness has a closure with more members than the limit
abbrev pub NoneTooLarge : List Axiom → ℕ → Type 0
NoneTooLarge axioms limit = (n : ℕ) (q : Query) → Forbids axioms n q → ¬ HasMoreThan axioms q limit

-- what is answered for one axiom: none for an inclusion, and for a disjointness its closure, which isn't too large
abbrev pub IsClosureOf : List Axiom → Axiom → ℕ → Option (List Member) → Type 0
IsClosureOf axioms rule limit None = disjointness_query rule ≡ None
IsClosureOf axioms rule limit (Some members) = (q : Query) × (disjointness_query rule ≡ Some q) × Closes axioms q members × IsDerivation members
    × (¬ HasMoreThan axioms q limit)

-- how the refusal of a join is that of the finder
abbrev pub refusal_of : JoinRefusal → FindRefusal
refusal_of join.TooManyHits = refusal.Conflicts
refusal_of join.NoMemory = refusal.NoMemory
