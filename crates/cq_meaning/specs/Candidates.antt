-- The candidates of a query, and the causes of a tuple.
use Rattle.std.specs.Prelude.{◌≡◌, ◌≢◌, ℕ, ◌<◌, List, [], ◌∷◌, length, All, AllPairs, Contains}
use Rattle.std.specs.Ordering.{nat_cmp}
use Rattle.std.specs.declared.cmp.Ordering.TheVariants.{Less}
use Rattle.std.specs.Cmp.Lexicographic.{slice_cmp}
use Rattle.cq_terms.specs.declared.query.Term.TheVariants.{Var}
use Rattle.cq_terms.specs.declared.query.QAtom.TheVariants as atom
use Rattle.cq_terms.specs.Knowledge.{Knowledge}
use Rattle.cq_terms.specs.Query.{Query}
use Rattle.cq_meaning.specs.Conflicts.{Only, AreConsistent, FactsEntail}
use Rattle.cq_terms.specs.Lists.{IsAscending}

-- every fact of the table
abbrev pub Every : ℕ → Type 0
Every i = Unit {0}

-- the set without a fact
abbrev pub Without : ℕ → (ℕ → Type 0) → ℕ → Type 0
Without i S l = S l × (l ≢ i)

-- the tuples that all facts entail under the positive axioms, each once, in lexicographic order of individual numbers
pub record AreCandidates (kb : Knowledge) (q : Query) (tuples : List (List ℕ)) : Type 0 where
  pub entailed : All (FactsEntail kb Every q) tuples
  pub complete : (tuple : List ℕ) → FactsEntail kb Every q tuple → Contains tuples tuple
  pub ascending : AllPairs (λ a b. slice_cmp nat_cmp a b ≡ Less) tuples

-- who is in the concept
abbrev pub concept_query : ℕ → Query
concept_query a = record { head = Var 0 ∷ []; body = atom.Concept a (Var 0) ∷ [] }

-- the fact alone is consistent and entails the tuple
abbrev pub IsWitness : Knowledge → Query → List ℕ → ℕ → Type 0
IsWitness kb q tuple i = (i < length kb.facts) × AreConsistent kb (Only i) × FactsEntail kb (Only i) q tuple

-- consistent, and entails the tuple, which it does no more without any one of its facts
pub record IsCause (kb : Knowledge) (q : Query) (tuple : List ℕ) (S : ℕ → Type 0) : Type 0 where
  pub consistent : AreConsistent kb S
  pub entails : FactsEntail kb S q tuple
  pub least : (i : ℕ) → S i → ¬ FactsEntail kb (Without i S) q tuple

-- exactly the causes of the tuple, each as the ascending list of its numbers, in lexicographic order
pub record AreCauses (kb : Knowledge) (q : Query) (tuple : List ℕ) (causes : List (List ℕ)) : Type 0 where
  pub each : All (λ c. IsAscending c × IsCause kb q tuple (Contains c)) causes
  pub complete : (c : List ℕ) → IsAscending c → IsCause kb q tuple (Contains c) → Contains causes c
  pub ascending : AllPairs (λ a b. slice_cmp nat_cmp a b ≡ Less) causes
