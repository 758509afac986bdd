-- Repairs, the chosen ones, and the verdicts (Bienvenu, Bourgaux and Goasdoué 2019; Bienvenu and Bourgaux 2022).
-- A set of facts of the table is a test on their numbers.
use Rattle.std.specs.Prelude.{◌≢◌, ℕ, zero, suc, ◌<◌, List, length, Contains, Bool, IsTrue, IsFalse}
use Rattle.cq_terms.specs.declared.facts.Pair.{Pair}
use Rattle.cq_terms.specs.declared.facts.Repairs.{Repairs}
use Rattle.cq_terms.specs.declared.facts.Repairs.TheVariants.{All}
use Rattle.cq_terms.specs.Knowledge.{Knowledge}
use Rattle.cq_terms.specs.Query.{Query}
use Rattle.cq_meaning.specs.Conflicts.{In, Only, With, AreConsistent, FactsEntail, Conflict}

-- the priority lists the pair
abbrev pub IsListed : List Pair → ℕ → ℕ → Type 0
IsListed pairs i j = Contains pairs (record { upper = i; lower = j })

-- the first fact is better than the second: the priority lists the pair, and the two conflict; in mode `all` none is
pub record IsBetter (kb : Knowledge) (mode : Repairs) (i j : ℕ) : Type 0 where
  pub ranked : mode ≢ All
  pub listed : IsListed kb.pairs i j
  pub conflict : Conflict kb i j

-- n + 1 pairs lead from the first fact to the second, each to one that is not as good
abbrev pub LeadsTo : Knowledge → Repairs → ℕ → ℕ → ℕ → Type 0
LeadsTo kb mode zero i j = IsBetter kb mode i j
LeadsTo kb mode (suc n) i j = (l : ℕ) × IsBetter kb mode i l × LeadsTo kb mode n l j

-- no fact is reached from itself
abbrev pub IsAcyclic : Knowledge → Repairs → Type 0
IsAcyclic kb mode = (n i : ℕ) → ¬ LeadsTo kb mode n i i

-- a consistent set to which no further fact of the table can be added
pub record IsRepair (kb : Knowledge) (R : ℕ → Bool) : Type 0 where
  pub consistent : AreConsistent kb (In R)
  pub maximal : (i : ℕ) → i < length kb.facts → IsFalse (R i) → ¬ AreConsistent kb (With i (In R))

-- B is consistent, and some fact of B outside R is better than every fact of R outside B
pub record Improves (kb : Knowledge) (better : ℕ → ℕ → Type 0) (B R : ℕ → Bool) : Type 0 where
  pub consistent : AreConsistent kb (In B)
  pub gain : (i : ℕ) × (i < length kb.facts) × IsTrue (B i) × IsFalse (R i)
      × ((j : ℕ) → j < length kb.facts → IsTrue (R j) → IsFalse (B j) → better i j)

-- a repair that nothing improves: Pareto-optimal under "better"
pub record IsOptimal (kb : Knowledge) (better : ℕ → ℕ → Type 0) (R : ℕ → Bool) : Type 0 where
  pub repair : IsRepair kb R
  pub unimproved : (B : ℕ → Bool) → ¬ Improves kb better B R

-- a repair that nothing improves under the priority of the mode; in mode `all` every repair
abbrev pub IsChosen : Knowledge → Repairs → (ℕ → Bool) → Type 0
IsChosen kb mode R = IsOptimal kb (IsBetter kb mode) R

-- some chosen repair entails the tuple
abbrev pub IsBrave : Knowledge → Repairs → Query → List ℕ → Type 0
IsBrave kb mode q tuple = (R : ℕ → Bool) × IsChosen kb mode R × FactsEntail kb (In R) q tuple

-- every chosen repair does
abbrev pub IsAr : Knowledge → Repairs → Query → List ℕ → Type 0
IsAr kb mode q tuple = (R : ℕ → Bool) → IsChosen kb mode R → FactsEntail kb (In R) q tuple

-- the facts that lie in every chosen repair do
abbrev pub IsIar : Knowledge → Repairs → Query → List ℕ → Type 0
IsIar kb mode q tuple = FactsEntail kb (λ i. (R : ℕ → Bool) → IsChosen kb mode R → IsTrue (R i)) q tuple

-- the local form of a chosen repair: consistent, and each self-consistent fact outside conflicts with one inside to
-- which it is not better
pub record IsLocallyOptimal (kb : Knowledge) (better : ℕ → ℕ → Type 0) (R : ℕ → Bool) : Type 0 where
  pub consistent : AreConsistent kb (In R)
  pub outside : (i : ℕ) → i < length kb.facts → IsFalse (R i) → AreConsistent kb (Only i)
      → (j : ℕ) × (j < length kb.facts) × IsTrue (R j) × Conflict kb i j × ¬ better i j
