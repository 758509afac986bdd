-- The conflicts of a table as lists of facts, and the facts to which conflicts lead from a candidate.
use Rattle.std.specs.Prelude.{◌≡◌, ℕ, zero, suc, ◌↔◌, List, [], ◌∷◌, ◌++◌, map, Contains}
use Rattle.cq_terms.specs.Knowledge.{Knowledge}
use Rattle.cq_meaning.specs.Conflicts.{Conflict, AreConflicts}
use Rattle.cq_terms.specs.Lists.{IsAscending}

-- the self-inconsistent facts and then the pairs in conflict, each as the list of its facts
abbrev pub conflict_lists : List ℕ → List (ℕ × ℕ) → List (List ℕ)
conflict_lists owns pairs = map (λ (i : ℕ). i ∷ []) owns ++ map (λ (p : ℕ × ℕ). p.0 ∷ p.1 ∷ []) pairs

-- exactly the self-inconsistent facts, ascending, and then exactly the conflicts in lexicographic order
abbrev pub AreConflictLists : Knowledge → List (List ℕ) → Type 0
AreConflictLists kb lists = (owns : List ℕ) × (pairs : List (ℕ × ℕ)) × AreConflicts kb owns pairs × (lists ≡ conflict_lists owns pairs)

-- a chain of so many conflicts leads from the first fact to the second
abbrev pub IsLinkedIn : Knowledge → ℕ → ℕ → ℕ → Type 0
IsLinkedIn kb zero i j = i ≡ j
IsLinkedIn kb (suc n) i j = (l : ℕ) × IsLinkedIn kb n i l × Conflict kb l j

-- the fact is in a component of the causes: a chain of conflicts leads to it from a fact of a cause
abbrev pub IsInComponents : Knowledge → List (List ℕ) → ℕ → Type 0
IsInComponents kb causes f = (cause : List ℕ) × (i : ℕ) × (n : ℕ) × Contains causes cause × Contains cause i × IsLinkedIn kb n i f

-- the fact is in conflict with some fact
abbrev pub IsInConflict : Knowledge → ℕ → Type 0
IsInConflict kb i = (j : ℕ) × Conflict kb i j

-- the facts in conflicts of the components of the causes, ascending
pub record AreConflictFacts (kb : Knowledge) (causes : List (List ℕ)) (facts : List ℕ) : Type 0 where
  pub ascending : IsAscending facts
  pub exact : (i : ℕ) → Contains facts i ↔ (IsInConflict kb i × IsInComponents kb causes i)
