-- Sets of facts of the table, by their numbers, and facts in conflict. A set is a predicate on numbers; a number past the
-- table gives no fact.
use Rattle.std.specs.Prelude.{◌≡◌, ◌≢◌, ℕ, ◌<◌, ◌⊎◌, ◌↔◌, List, length, AllPairs, Contains, slice_get, Some, Bool, IsTrue}
use Rattle.cq_terms.specs.declared.facts.Fact.{Fact}
use Rattle.cq_terms.specs.Knowledge.{Knowledge}
use Rattle.cq_terms.specs.Query.{Query}
use Rattle.cq_meaning.specs.Chase.{Consistent}
use Rattle.cq_meaning.specs.Entailment.{Entails}
use Rattle.cq_terms.specs.Lists.{IsAscending}

-- the facts whose numbers are in the set
abbrev pub facts_in : Knowledge → (ℕ → Type 0) → Fact → Type 0
facts_in kb S f = (i : ℕ) × S i × (slice_get kb.facts i ≡ Some f)

-- the set of one fact
abbrev pub Only : ℕ → ℕ → Type 0
Only i l = l ≡ i

-- the set of two facts
abbrev pub Both : ℕ → ℕ → ℕ → Type 0
Both i j l = (l ≡ i) ⊎ (l ≡ j)

-- the set with one more fact
abbrev pub With : ℕ → (ℕ → Type 0) → ℕ → Type 0
With i S l = (l ≡ i) ⊎ S l

-- the members of a set that is given by a test
abbrev pub In : (ℕ → Bool) → ℕ → Type 0
In R i = IsTrue (R i)

-- the facts of the set are consistent together
abbrev pub AreConsistent : Knowledge → (ℕ → Type 0) → Type 0
AreConsistent kb S = Consistent kb.axioms (facts_in kb S)

-- the facts of the set entail the tuple
abbrev pub FactsEntail : Knowledge → (ℕ → Type 0) → Query → List ℕ → Type 0
FactsEntail kb S q tuple = Entails kb.axioms (facts_in kb S) q tuple

-- the fact alone is not consistent
abbrev pub IsSelfInconsistent : Knowledge → ℕ → Type 0
IsSelfInconsistent kb i = ¬ AreConsistent kb (Only i)

-- two different facts, each consistent alone, are not consistent together
pub record Conflict (kb : Knowledge) (i j : ℕ) : Type 0 where
  pub different : i ≢ j
  pub left : AreConsistent kb (Only i)
  pub right : AreConsistent kb (Only j)
  pub together : ¬ AreConsistent kb (Both i j)

-- no fact of the set is self-inconsistent, and no two of it conflict
pub record IsConflictFree (kb : Knowledge) (S : ℕ → Type 0) : Type 0 where
  pub own : (i : ℕ) → i < length kb.facts → S i → ¬ IsSelfInconsistent kb i
  pub pairs : (i j : ℕ) → i < length kb.facts → j < length kb.facts → S i → S j → ¬ Conflict kb i j

-- exactly the self-inconsistent facts and exactly the pairs in conflict, the lesser number first, each list ascending
pub record AreConflicts (kb : Knowledge) (owns : List ℕ) (pairs : List (ℕ × ℕ)) : Type 0 where
  pub owns_exact : (i : ℕ) → Contains owns i ↔ ((i < length kb.facts) × IsSelfInconsistent kb i)
  pub pairs_exact : (i j : ℕ) → Contains pairs (i, j) ↔ ((i < j) × Conflict kb i j)
  pub owns_ascending : IsAscending owns
  pub pairs_ascending : AllPairs (λ p r. (p.0 < r.0) ⊎ ((p.0 ≡ r.0) × (p.1 < r.1))) pairs

-- the tests tell the self-inconsistent facts and those in conflict
pub record TellConflicts (kb : Knowledge) (own : ℕ → Bool) (clash : ℕ → ℕ → Bool) : Type 0 where
  pub own_iff : (i : ℕ) → i < length kb.facts → IsTrue (own i) ↔ IsSelfInconsistent kb i
  pub clash_iff : (i j : ℕ) → i < length kb.facts → j < length kb.facts → IsTrue (clash i j) ↔ Conflict kb i j
