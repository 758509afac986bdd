-- The scope of an answer: facts that are closed under conflict and have the causes, and the selector of the candidate. What it is for
-- learned clauses to keep to it, and the rules of a try read over the clauses of the scope alone.
use Rattle.std.specs.Prelude.{◌≡◌, ◌⊎◌, ◌<◌, ◌↔◌, ℕ, List, [], ◌∷◌, ◌++◌, length, All, Contains, Bool, true, false, not, nat_lt}
use Rattle.std.specs.List.{list_any}
use Rattle.cq_terms.specs.declared.facts.Repairs.{Repairs}
use Rattle.cq_terms.specs.Knowledge.{Knowledge}
use Rattle.cq_meaning.specs.Conflicts.{Conflict}
use Rattle.cq_terms.specs.Lists.{IsAscending}
use Rattle.clause_meaning.specs.Literals.{variable_of, HaveDistinctVariables}
use Rattle.clause_meaning.specs.Assignments.{IsInside, IsOutside, Inside}
use Rattle.clause_meaning.specs.Refutation.{Refutes, Follows, ContainsOneOf, IsWithin}
use Rattle.priority_graph.specs.Split.{has}
use Rattle.repair_clauses.specs.Components.{IsClosedUnder}
use Rattle.report_text.specs.declared.line.Line.{Line}
use Rattle.report_rules.specs.Inputs.{Input, AreFacts, selector_of}
use Rattle.report_rules.specs.Clauses.{IsBaseClause}
use Rattle.report_rules.specs.ConflictLists.{IsInComponents}
use Rattle.report_rules.specs.Told.{mode_of, budget_of}
use Rattle.report_rules.specs.Tries.{Asked, asked, question_of, assumed}
use Rattle.report_rules.specs.Live.{count_learned, learned_for, IsLearned, Live}
use Rattle.report_rules.specs.TryRules.{MayLearn, IsEasy}

-- the facts and the selector of the candidate
abbrev pub scope_of : Knowledge → Asked → List ℕ → List ℕ
scope_of kb a facts = facts ++ selector_of kb a.candidate ∷ []

-- facts of the table that are closed under conflict and have each cause
pub record IsScope (kb : Knowledge) (causes : List (List ℕ)) (facts : List ℕ) : Type 0 where
  pub known : AreFacts kb facts
  pub closed : IsClosedUnder (Conflict kb) (Contains facts)
  pub causes_inside : (cause : List ℕ) → Contains causes cause → IsWithin cause facts

-- exactly the facts of the components of the causes, ascending
pub record AreComponents (kb : Knowledge) (causes : List (List ℕ)) (facts : List ℕ) : Type 0 where
  pub ascending : IsAscending facts
  pub exact : (i : ℕ) → Contains facts i ↔ IsInComponents kb causes i

-- no list of facts that is closed under conflict has some variables of the clause and lacks others
abbrev pub IsApart : Knowledge → List ℕ → Type 0
IsApart kb clause = (facts : List ℕ) → IsClosedUnder (Conflict kb) (Contains facts)
    → IsInside (has facts) clause ⊎ IsOutside (has facts) clause

-- whether the clause has a variable past the facts, of which there are so many
abbrev pub goes_beyond : ℕ → List ℕ → Bool
goes_beyond facts clause = list_any (λ l. not (nat_lt (variable_of l) facts)) clause

-- each of the clauses is over facts alone, and apart
abbrev pub AreApart : Knowledge → (List ℕ → Type 0) → Type 0
AreApart kb S = (clause : List ℕ) → S clause → (goes_beyond (length kb.facts) clause ≡ false) × IsApart kb clause

-- between answers: each learned clause that lives is so
abbrev pub LearnedApart : Knowledge → List Line → Type 0
LearnedApart kb before = AreApart kb (IsLearned kb before)

-- in an answer: a clause over facts alone is apart, and any other is over the scope
pub record KeepsTo (kb : Knowledge) (scope : List ℕ) (clause : List ℕ) : Type 0 where
  pub apart : goes_beyond (length kb.facts) clause ≡ false → IsApart kb clause
  pub inside : goes_beyond (length kb.facts) clause ≡ true → IsInside (has scope) clause

-- the facts are a scope of the open candidate, and each learned clause that lives keeps to it
pub record KeepsScope (kb : Knowledge) (before : List Line) (facts : List ℕ) : Type 0 where
  pub scope : IsScope kb (asked before).causes facts
  pub learned : (clause : List ℕ) → IsLearned kb before clause → KeepsTo kb (scope_of kb (asked before) facts) clause

-- over literals of the scope the clauses S and the clauses T say the same
pub record SayTheSame (scope : List ℕ) (S T : List ℕ → Type 0) : Type 0 where
  pub refutes : (L : List ℕ) → IsInside (has scope) L → Refutes S (Contains L) ↔ Refutes T (Contains L)
  pub follows : (clause : List ℕ) → IsInside (has scope) clause → Follows S clause ↔ Follows T clause
  pub contains : (clause : List ℕ) → IsInside (has scope) clause → ContainsOneOf S clause ↔ ContainsOneOf T clause

-- over literals of the scope the clauses S say no more than those of them that are inside
abbrev pub ScopeDecides : List ℕ → (List ℕ → Type 0) → Type 0
ScopeDecides scope S = SayTheSame scope S (Inside (has scope) S)

-- the unit base clauses of the fact are among the clauses S
abbrev pub HasUnits : Knowledge → Repairs → (List ℕ → Type 0) → ℕ → Type 0
HasUnits kb mode S i = (l : ℕ) → variable_of l ≡ i → IsBaseClause kb mode (l ∷ []) → S (l ∷ [])

-- the rule of a learned clause, read over the clauses of the scope
pub record LearnsInScope (input : Input) (before : List Line) (scope : List ℕ) (number : ℕ) (clause : List ℕ) : Type 0 where
  pub counts : number ≡ count_learned before
  pub in_budget : learned_for (question_of before) before < budget_of before
  pub not_empty : 0 < length clause
  pub ascending : IsAscending clause
  pub distinct : HaveDistinctVariables clause
  pub literals : All (MayLearn input.kb (asked before)) clause
  pub inside : IsInside (has scope) clause
  pub follows : Follows (Inside (has scope) (Live input.kb before)) clause
  pub new : ¬ ContainsOneOf (Inside (has scope) (Live input.kb before)) clause
  pub needed : ¬ Refutes (Inside (has scope) (Live input.kb before)) (Contains (assumed before))

-- the rule of a spent try, read so
pub record SpentInScope (input : Input) (before : List Line) (scope : List ℕ) : Type 0 where
  pub not_refuted : ¬ Refutes (Inside (has scope) (Live input.kb before)) (Contains (assumed before))
  pub budget : learned_for (question_of before) before ≡ budget_of before
  pub not_easy : ¬ IsEasy input.kb (mode_of before) (question_of before) (assumed before)
