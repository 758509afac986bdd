-- The laws that the crate's functions prove.
use Rattle.std.specs.Prelude.{◌≡◌, ℕ, ◌<◌, ◌⊎◌, List, [], ◌∷◌, length, All, Contains, Bool, ◌↔◌}
use Rattle.cq_terms.specs.declared.axioms.Axiom.{Axiom}
use Rattle.cq_terms.specs.declared.facts.Fact.{Fact}
use Rattle.cq_terms.specs.declared.facts.Repairs.{Repairs}
use Rattle.cq_terms.specs.declared.facts.Repairs.TheVariants as mode
use Rattle.cq_terms.specs.Knowledge.{Knowledge}
use Rattle.cq_meaning.specs.Candidates.{Every, Without, concept_query, IsWitness}
use Rattle.cq_meaning.specs.Chase.{Atom, InStage}
use Rattle.cq_meaning.specs.ConceptNames.{IsOfNames, IsOfName, PutsInto, PutsSafelyInto, ClashByNames}
use Rattle.cq_meaning.specs.Conflicts.{In, Only, facts_in, AreConsistent, FactsEntail, Conflict, IsConflictFree}
use Rattle.cq_meaning.specs.Cores.{IsCore}
use Rattle.cq_meaning.specs.Repairs.{IsBetter, IsRepair, IsChosen, IsLocallyOptimal, IsAcyclic, IsBrave}

-- each atom of a stage descends from one fact
abbrev pub EachAtomDescends : Type 0
EachAtomDescends = (axioms : List Axiom) (facts : List Fact) (k : ℕ) (x : Atom) → InStage axioms (Contains facts) k x
    → (f : Fact) × Contains facts f × InStage axioms (Contains (f ∷ [])) k x

-- the same for a part of a table that is given by numbers
abbrev pub EachAtomDescendsByNumber : Type 0
EachAtomDescendsByNumber = (kb : Knowledge) (S : ℕ → Bool) (k : ℕ) (x : Atom) → InStage kb.axioms (facts_in kb (In S)) k x
    → (i : ℕ) × In S i × InStage kb.axioms (facts_in kb (Only i)) k x

-- a set of facts is consistent exactly where it has no self-inconsistent fact and no two facts that conflict
abbrev pub ConsistentByPairs : Type 0
ConsistentByPairs = (kb : Knowledge) (S : ℕ → Bool) → AreConsistent kb (In S) ↔ IsConflictFree kb (In S)

-- a set that is not consistent, but is without any one of its facts, has one fact or two
abbrev pub MinimalInconsistentHasTwo : Type 0
MinimalInconsistentHasTwo = (kb : Knowledge) (S : ℕ → Bool) → ¬ AreConsistent kb (In S) → ((i : ℕ) → In S i → AreConsistent kb (Without i (In S)))
    → (i : ℕ) × (j : ℕ) × In S i × In S j × ((l : ℕ) → In S l → (l ≡ i) ⊎ (l ≡ j))

-- a consistent set of facts lies in a repair
abbrev pub ExtendsToRepair : Type 0
ExtendsToRepair = (kb : Knowledge) (S : ℕ → Bool) → AreConsistent kb (In S)
    → (R : ℕ → Bool) × IsRepair kb R × ((i : ℕ) → In S i → In R i)

-- a set is a chosen repair exactly where it is consistent, and each self-consistent fact outside it conflicts with one inside
-- to which it is not better
abbrev pub LocalForm : Type 0
LocalForm = (kb : Knowledge) (mode : Repairs) (R : ℕ → Bool) → IsChosen kb mode R ↔ IsLocallyOptimal kb (IsBetter kb mode) R

-- under an acyclic priority there is a chosen repair
abbrev pub ChosenExists : Type 0
ChosenExists = (kb : Knowledge) (mode : Repairs) → IsAcyclic kb mode → (R : ℕ → Bool) × IsChosen kb mode R

-- under an acyclic priority a core lies in a chosen repair that has nothing of what the core drops
abbrev pub CoreExtends : Type 0
CoreExtends = (kb : Knowledge) (mode : Repairs) → IsAcyclic kb mode → (kept dropped : ℕ → Bool) → IsCore kb mode kept dropped
    → (R : ℕ → Bool) × IsChosen kb mode R × ((i : ℕ) → In kept i → In R i) × ((i : ℕ) → i < length kb.facts → In dropped i → ¬ In R i)

-- who is a candidate for a concept, by which facts alone, and who is in it by some repair
pub record VerdictsByNames (kb : Knowledge) (concept t : ℕ) : Type 0 where
  pub candidate : FactsEntail kb Every (concept_query concept) (t ∷ []) ↔ ((i : ℕ) × PutsInto kb concept t i)
  pub witness : (i : ℕ) → IsWitness kb (concept_query concept) (t ∷ []) i ↔ PutsSafelyInto kb concept t i
  pub brave : IsBrave kb mode.All (concept_query concept) (t ∷ []) ↔ ((i : ℕ) × IsWitness kb (concept_query concept) (t ∷ []) i)

-- under concept names alone the inclusions and disjointnesses above the names of the facts tell all this
abbrev pub ConceptNameVerdicts : Type 0
ConceptNameVerdicts = (kb : Knowledge) → All IsOfNames kb.axioms → All IsOfName kb.facts → (concept t : ℕ) → VerdictsByNames kb concept t

-- under concept names alone two facts conflict exactly where they clash by these
abbrev pub ConceptNameConflicts : Type 0
ConceptNameConflicts = (kb : Knowledge) → All IsOfNames kb.axioms → All IsOfName kb.facts → (i j : ℕ) → Conflict kb i j ↔ ClashByNames kb i j
