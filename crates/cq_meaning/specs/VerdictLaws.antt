-- The laws on causes and verdicts that the crate's functions prove.
use Rattle.std.specs.Prelude.{ℕ, ◌↔◌, List, All, Contains, Bool}
use Rattle.cq_terms.specs.declared.facts.Repairs.{Repairs}
use Rattle.cq_terms.specs.Knowledge.{Knowledge}
use Rattle.cq_terms.specs.Query.{Query}
use Rattle.cq_meaning.specs.Candidates.{IsCause}
use Rattle.cq_meaning.specs.Conflicts.{In, AreConsistent, FactsEntail}
use Rattle.cq_terms.specs.Lists.{IsAscending}
use Rattle.cq_meaning.specs.Repairs.{IsChosen, IsAcyclic, IsBrave, IsAr, IsIar}

-- the set has all facts of some cause of the tuple
abbrev pub HasCause : Knowledge → Query → List ℕ → (ℕ → Type 0) → Type 0
HasCause kb q tuple S = (numbers : List ℕ) × IsAscending numbers × IsCause kb q tuple (Contains numbers) × All S numbers

-- a consistent part of a table entails a tuple exactly where it has a cause of it
abbrev pub EntailedByCauses : Type 0
EntailedByCauses = (kb : Knowledge) (S : ℕ → Bool) → AreConsistent kb (In S) → (q : Query) (tuple : List ℕ) → FactsEntail kb (In S) q tuple
    ↔ HasCause kb q tuple (In S)

-- the three verdicts by the causes that lie in some chosen repair, in each one, and in what all have
pub record VerdictsByCauses (kb : Knowledge) (mode : Repairs) (q : Query) (tuple : List ℕ) : Type 0 where
  pub brave : IsBrave kb mode q tuple ↔ ((R : ℕ → Bool) × IsChosen kb mode R × HasCause kb q tuple (In R))
  pub ar : IsAr kb mode q tuple ↔ ((R : ℕ → Bool) → IsChosen kb mode R → HasCause kb q tuple (In R))
  pub iar : IsIar kb mode q tuple ↔ HasCause kb q tuple (λ i. (R : ℕ → Bool) → IsChosen kb mode R → In R i)

-- under an acyclic priority causes tell the verdicts
abbrev pub CausesTellVerdicts : Type 0
CausesTellVerdicts = (kb : Knowledge) (mode : Repairs) → IsAcyclic kb mode → (q : Query) (tuple : List ℕ) → VerdictsByCauses kb mode q tuple
