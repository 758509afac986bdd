-- The laws that the crate's functions prove. A set of facts that is to be found is a test on their numbers.
use Rattle.std.specs.Prelude.{◌↔◌, ℕ, List, Contains, Bool, All, IsTrue, IsFalse}
use Rattle.cq_meaning.specs.Conflicts.{In}
use Rattle.clause_meaning.specs.Assignments.{Satisfies, SatisfiesAll, Separates}
use Rattle.priority_graph.specs.Priority.{Priority, IsPriority, Conflict}
use Rattle.priority_graph.specs.Cores.{IsBlocked}
use Rattle.priority_graph.specs.ChosenRepairs.{IsChosen}
use Rattle.repair_clauses.specs.BaseClauses.{IsBaseClause, AllFacts}
use Rattle.repair_clauses.specs.CauseClauses.{cause_clause}
use Rattle.repair_clauses.specs.Components.{IsClosedUnder}

-- within a set of facts, those inside are chosen: none is self-inconsistent, no two conflict, and each other fact of the set
-- that isn't self-inconsistent conflicts with one inside the set to which it isn't better
pub record IsChosenWithin (p : Priority) (S : ℕ → Type 0) (R : ℕ → Bool) : Type 0 where
  pub own : (i : ℕ) → S i → In R i → ¬ Contains p.own i
  pub pairs : (i j : ℕ) → S i → S j → In R i → In R j → ¬ Conflict p i j
  pub outside : (i : ℕ) → S i → IsFalse (R i) → ¬ Contains p.own i → IsBlocked p (λ j. S j × In R j) i

-- an assignment satisfies the base clauses of all facts exactly where its present facts are a chosen repair
abbrev pub SatisfiedByChosen : Type 0
SatisfiedByChosen = (p : Priority) → IsPriority p → (v : ℕ → Bool) → SatisfiesAll v (IsBaseClause p (AllFacts p)) ↔ IsChosen p v

-- an assignment satisfies the base clauses of facts that are closed under conflict exactly where its present ones among them
-- are chosen within them
abbrev pub SatisfiedByChosenWithin : Type 0
SatisfiedByChosenWithin = (p : Priority) → IsPriority p → (facts : List ℕ) → IsClosedUnder (Conflict p) (Contains facts)
    → (v : ℕ → Bool) → SatisfiesAll v (IsBaseClause p (Contains facts)) ↔ IsChosenWithin p (Contains facts) v

-- no base clause has facts both inside and outside a set that is closed under conflict
abbrev pub ClosedSetsSeparate : Type 0
ClosedSetsSeparate = (p : Priority) → (scope : ℕ → Bool) → IsClosedUnder (Conflict p) (In scope)
    → Separates scope (IsBaseClause p (AllFacts p))

-- the clause of a cause is satisfied unless the selector is true and the whole cause is present: so it is wherever a true selector
-- says that the present facts don't contain the cause
abbrev pub CauseIsExcluded : Type 0
CauseIsExcluded = (v : ℕ → Bool) (selector : ℕ) (cause : List ℕ)
    → Satisfies v (cause_clause selector cause) ↔ (IsTrue (v selector) → ¬ All (In v) cause)
