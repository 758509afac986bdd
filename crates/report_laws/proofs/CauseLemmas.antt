-- The causes of a candidate: their facts, and what sets that have one or none entail.
use Rattle.std.proofs.Common.{◌≡◌, ℕ, ◌<◌, ◌≤◌, ◌⊎◌, inl, inr, List, length, Contains, Bool, true, false, arith}
use Rattle.std.proofs.lemmas.Bool.{cases_Bool, cases_lt}
use Rattle.std.proofs.lemmas.List.Elements.{All-contains}
use Rattle.std.proofs.lemmas.Option.{slice_get_within}
use Rattle.cq_terms.specs.Knowledge.{Knowledge}
use Rattle.cq_terms.specs.Query.{Query}
use Rattle.cq_terms.specs.Lists.{IsAscending}
use Rattle.cq_meaning.specs.Conflicts.{AreConsistent, FactsEntail, facts_in}
use Rattle.cq_meaning.specs.Candidates.{Without, IsCause, AreCauses}
use Rattle.cq_meaning.proofs.Single.{Entails-mono, FactsEntail-mono}
use Rattle.cq_meaning.proofs.Causes.{entailed_by_causes}
use Rattle.cq_meaning.proofs.Listed.{all_or_some}

-- the facts of a cause are facts of the table
pub cause_within : (kb : Knowledge) (q : Query) (tuple cause : List ℕ) → IsCause kb q tuple (Contains cause) → (i : ℕ) → Contains cause i → i < length kb.facts
cause_within kb q tuple cause w i m = elim (cases_lt i (length kb.facts)) [
  | inl l ↦ l
  | inr past ↦ absurd (w.least i m (Entails-mono kb.axioms (facts_in kb (Contains cause)) (facts_in kb (Without i (Contains cause)))
      (λ f (j, c, at). (j, (c, λ e. beyond j e past (slice_get_within kb.facts j f at)), at)) q tuple w.entails))
]
  where
    beyond : (j : ℕ) → j ≡ i → length kb.facts ≤ i → j < length kb.facts → ⊥
    beyond j e past l = omega arith

module _ (kb : Knowledge) (q : Query) (tuple : List ℕ) (causes : List (List ℕ)) (w : AreCauses kb q tuple causes) where
  -- a listed cause is ascending, and a cause
  pub listed_cause : (cause : List ℕ) → Contains causes cause → IsAscending cause × IsCause kb q tuple (Contains cause)
  listed_cause cause m = All-contains (λ c. IsAscending c × IsCause kb q tuple (Contains c)) causes cause w.each m

  -- its facts are facts of the table
  pub listed_within : (cause : List ℕ) → Contains causes cause → (i : ℕ) → Contains cause i → i < length kb.facts
  listed_within cause m i k = cause_within kb q tuple cause (listed_cause cause m).1 i k

  -- a set with a whole cause entails the tuple
  pub cause_entails : (cause : List ℕ) → Contains causes cause → (S : ℕ → Type 0) → ((i : ℕ) → Contains cause i → S i) → FactsEntail kb S q tuple
  cause_entails cause m S h = FactsEntail-mono kb q tuple (Contains cause) S h (listed_cause cause m).1.entails

  -- a consistent set that entails it has a whole cause
  pub entails_cause : (S : ℕ → Type 0) → AreConsistent kb S → FactsEntail kb S q tuple → (cause : List ℕ) × Contains causes cause
      × ((i : ℕ) → Contains cause i → S i)
  entails_cause S c e =
      let h = (entailed_by_causes kb q tuple S c).0 e in
      (h.0, w.complete h.0 h.1 h.2, λ i m. All-contains S h.0 i h.3 m)

-- two lists of all causes have the same members
pub same_causes : (kb : Knowledge) (q : Query) (tuple : List ℕ) (causes others : List (List ℕ)) → AreCauses kb q tuple causes → AreCauses kb q tuple others
    → (cause : List ℕ) → Contains causes cause → Contains others cause
same_causes kb q tuple causes others u w cause m = let c = listed_cause kb q tuple causes u cause m in w.complete cause c.0 c.1

-- the set has the whole cause
abbrev pub Has : (ℕ → Bool) → List ℕ → Type 0
Has R cause = (i : ℕ) → Contains cause i → R i ≡ true

-- a fact of the cause isn't in the set
abbrev pub Misses : (ℕ → Bool) → List ℕ → Type 0
Misses R cause = (i : ℕ) × Contains cause i × (R i ≡ false)

-- a set has a whole cause or misses a fact of it
pub has_or_misses : (R : ℕ → Bool) (cause : List ℕ) → Has R cause ⊎ Misses R cause
has_or_misses R cause = all_or_some (λ i. R i ≡ true) (λ i. R i ≡ false) (λ i. cases_Bool (R i)) cause

-- a set misses a fact of each cause, or has a whole one
pub misses_or_has : (R : ℕ → Bool) (causes : List (List ℕ)) → ((cause : List ℕ) → Contains causes cause → Misses R cause)
    ⊎ ((cause : List ℕ) × Contains causes cause × Has R cause)
misses_or_has R causes = all_or_some (Misses R) (Has R) (λ cause. elim (has_or_misses R cause) [ inl h ↦ inr h | inr m ↦ inl m ]) causes
