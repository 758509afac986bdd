-- The laws of scopes: what keeps to the scope of an answer, and that the rules of its tries may be read over the scope alone.
use Rattle.std.specs.Prelude.{◌≡◌, ◌≢◌, ◌⊎◌, ◌<◌, ◌↔◌, ℕ, List, [], ◌∷◌, ◌++◌, length, All, Contains, true, Option, None}
use Rattle.cq_terms.specs.declared.facts.Repairs.{Repairs}
use Rattle.cq_terms.specs.Knowledge.{Knowledge}
use Rattle.cq_meaning.specs.Conflicts.{Only, AreConsistent, IsSelfInconsistent}
use Rattle.cq_meaning.specs.Repairs.{IsAcyclic}
use Rattle.cq_terms.specs.Lists.{IsAscending}
use Rattle.clause_meaning.specs.Literals.{variable_of}
use Rattle.clause_meaning.specs.Assignments.{IsInside, IsOutside, Inside, Separates}
use Rattle.clause_meaning.specs.Learning.{IsUndecided}
use Rattle.clause_meaning.specs.Refutation.{Refutes}
use Rattle.priority_graph.specs.Priority.{Priority}
use Rattle.priority_graph.specs.Inputs.{IsPriorityOf}
use Rattle.priority_graph.specs.Split.{has}
use Rattle.repair_clauses.specs.BaseClauses as over_priority
use Rattle.repair_clauses.specs.BaseClauses.{present, absent}
use Rattle.report_text.specs.declared.line.Line.{Line}
use Rattle.report_text.specs.declared.line.Line.TheVariants as line
use Rattle.report_text.specs.declared.line.Question.{Question}
use Rattle.report_text.specs.declared.line.How.{How}
use Rattle.report_text.specs.declared.line.How.TheVariants as how
use Rattle.report_text.specs.declared.line.Verdict.{Verdict}
use Rattle.report_rules.specs.Inputs.{Input, AreFacts, selector_of}
use Rattle.report_rules.specs.ConflictLists.{IsInConflict}
use Rattle.report_rules.specs.Clauses.{IsBaseClause, IsCauseClause}
use Rattle.report_rules.specs.Told.{mode_of}
use Rattle.report_rules.specs.Tries.{Asked, asked, assumed}
use Rattle.report_rules.specs.Live.{Live, IsLearned}
use Rattle.report_rules.specs.TryRules.{MayAssume, MayLearn, LearnIsRight, DoneIsRight}
use Rattle.report_laws.specs.OpenAnswers.{start_of, IsRightAnswer, LearnedHold, Start, IsAmong, Tells}
use Rattle.report_laws.specs.Scopes.{scope_of, IsScope, AreComponents, IsApart, AreApart, LearnedApart, KeepsTo, KeepsScope, SayTheSame, ScopeDecides}
use Rattle.report_laws.specs.Scopes.{HasUnits, goes_beyond, LearnsInScope, SpentInScope}

-- the facts of the components of causes are a scope, with each selector behind them
abbrev pub ComponentsAreScope : Type 0
ComponentsAreScope = (kb : Knowledge) (causes : List (List ℕ)) (facts : List ℕ)
    → ((cause : List ℕ) → Contains causes cause → AreFacts kb cause) → AreComponents kb causes facts
    → IsScope kb causes facts × ((candidate : ℕ) → IsAscending (facts ++ selector_of kb candidate ∷ []))

-- no base clause has variables both in a list of facts that is closed under conflict and outside it, nor has one both in a scope
-- and outside it
abbrev pub BaseClausesAreApart : Type 0
BaseClausesAreApart = (kb : Knowledge) (mode : Repairs) (clause : List ℕ) → IsBaseClause kb mode clause
    → IsApart kb clause × ((a : Asked) (facts : List ℕ) → IsScope kb a.causes facts
    → IsInside (has (scope_of kb a facts)) clause ⊎ IsOutside (has (scope_of kb a facts)) clause)

-- the base clauses of the facts of a scope are base clauses inside it
abbrev pub ScopeHasBaseClauses : Type 0
ScopeHasBaseClauses = (kb : Knowledge) (mode : Repairs) (p : Priority) → IsPriorityOf kb mode p → (a : Asked) (facts : List ℕ)
    → IsScope kb a.causes facts → (clause : List ℕ) → over_priority.IsBaseClause p (Contains facts) clause
    → IsBaseClause kb mode clause × IsInside (has (scope_of kb a facts)) clause

-- the clauses of the causes are inside a scope, and so is all that may be assumed
abbrev pub CauseClausesAreInside : Type 0
CauseClausesAreInside = (kb : Knowledge) (a : Asked) (facts : List ℕ) → IsScope kb a.causes facts
    → ((clause : List ℕ) → IsCauseClause (selector_of kb a.candidate) a.causes clause → IsInside (has (scope_of kb a facts)) clause)
    × ((q : Question) (assume : List ℕ) → MayAssume kb a q assume → IsInside (has (scope_of kb a facts)) assume)

-- where an answer begins, learned clauses that are apart keep to each scope
abbrev pub ScopeBegins : Type 0
ScopeBegins = (kb : Knowledge) (before : List Line) → LearnedApart kb before → (candidate : ℕ) (tuple : List ℕ)
    (causes : List (List ℕ)) (members facts : List ℕ) → IsScope kb causes facts
    → KeepsScope kb (line.Ask candidate tuple causes members ∷ before) facts

-- a learned clause that keeps to the scope leaves all that live keep to it, and no other line of a try changes this
abbrev pub ScopeStays : Type 0
ScopeStays = (kb : Knowledge) (before : List Line) (facts : List ℕ) → KeepsScope kb before facts
    → ((number : ℕ) (clause : List ℕ) → KeepsTo kb (scope_of kb (asked before) facts) clause
    → KeepsScope kb (line.Learn number clause ∷ before) facts)
    × ((q : Question) (assume : List ℕ) → KeepsScope kb (line.Try q assume ∷ before) facts)
    × ((number : ℕ) (kept dropped : List ℕ) → KeepsScope kb (line.Core number kept dropped ∷ before) facts)
    × ((h : How) (core : Option ℕ) → KeepsScope kb (line.Done h core ∷ before) facts)

-- a clause over the scope keeps to it where, unless it has the selector, it is apart
abbrev pub ApartOrMarked : Type 0
ApartOrMarked = (kb : Knowledge) (a : Asked) (facts clause : List ℕ) → IsScope kb a.causes facts
    → IsInside (has (scope_of kb a facts)) clause
    → (((l : ℕ) → Contains clause l → variable_of l ≢ selector_of kb a.candidate) → IsApart kb clause)
    → KeepsTo kb (scope_of kb a facts) clause

-- the learned clauses that an answer leaves are apart
abbrev pub ScopeEnds : Type 0
ScopeEnds = (kb : Knowledge) (before : List Line) (facts : List ℕ) → KeepsScope kb before facts
    → (brave ar iar : Verdict) (cores : List ℕ) (names : List (List ℕ)) (tuple : List ℕ)
    → LearnedApart kb (line.Answer brave ar iar cores names tuple ∷ before)

-- forgetting leaves the learned clauses true and apart
abbrev pub ForgettingKeeps : Type 0
ForgettingKeeps = (input : Input) (before : List Line) (numbers : List ℕ)
    → (LearnedHold input before → LearnedHold input (line.Forget numbers ∷ before))
    × (LearnedApart input.kb before → LearnedApart input.kb (line.Forget numbers ∷ before))

-- the scope separates the live clauses, and each of these that hasn't the selector is apart
abbrev pub ScopeSeparatesLive : Type 0
ScopeSeparatesLive = (input : Input) (before : List Line) (facts : List ℕ) → KeepsScope input.kb before facts
    → Separates (has (scope_of input.kb (asked before) facts)) (Live input.kb before)
    × ((clause : List ℕ) → Live input.kb before clause
    → ((l : ℕ) → Contains clause l → variable_of l ≢ selector_of input.kb (asked before).candidate) → IsApart input.kb clause)

-- no live clause of an open answer has its selector present, where the learned clauses that it starts with are over facts alone
abbrev pub SelectorIsAbsent : Type 0
SelectorIsAbsent = (input : Input) (before : List Line) → IsRightAnswer input before → LearnedApart input.kb (start_of before)
    → (clause : List ℕ) → Live input.kb before clause → ¬ Contains clause (present (selector_of input.kb (asked before).candidate))

-- a learned clause has a variable past the facts exactly where it has the selector of the open answer
abbrev pub SelectorIsOwn : Type 0
SelectorIsOwn = (kb : Knowledge) (before : List Line) (facts : List ℕ) → KeepsScope kb before facts → (clause : List ℕ)
    → IsLearned kb before clause → (goes_beyond (length kb.facts) clause ≡ true)
    ↔ ((l : ℕ) × Contains clause l × (variable_of l ≡ selector_of kb (asked before).candidate))

-- where no live clause of an open answer crosses the border of a list of variables, those inside refute within the list what all
-- refute, whether or not the candidate is in place, under an acyclic priority
abbrev pub ScopeDecidesLive : Type 0
ScopeDecidesLive = (input : Input) (before : List Line) (scope : List ℕ) → IsRightAnswer input before
    → LearnedHold input (start_of before) → IsAcyclic input.kb (mode_of before)
    → Separates (has scope) (Live input.kb before) → ScopeDecides scope (Live input.kb before)

-- so the rules of a try may be read over the clauses of the scope
pub record RulesInScope (input : Input) (before : List Line) (scope : List ℕ) : Type 0 where
  pub learn : (number : ℕ) (clause : List ℕ) → LearnsInScope input before scope number clause → LearnIsRight input before number clause
  pub refuted : Refutes (Inside (has scope) (Live input.kb before)) (Contains (assumed before)) → DoneIsRight input before how.Refuted None
  pub spent : SpentInScope input before scope → DoneIsRight input before how.Spent None

abbrev pub ScopeGivesRules : Type 0
ScopeGivesRules = (input : Input) (before : List Line) (scope : List ℕ) → ScopeDecides scope (Live input.kb before)
    → IsInside (has scope) (assumed before) → RulesInScope input before scope

-- a fact in no conflict has a unit base clause in every mode: it is present, or absent where it is self-inconsistent
abbrev pub FreeFactsHaveUnits : Type 0
FreeFactsHaveUnits = (kb : Knowledge) (mode : Repairs) (i : ℕ) → i < length kb.facts → ¬ IsInConflict kb i
    → (AreConsistent kb (Only i) → IsBaseClause kb mode (present i ∷ []))
    × (IsSelfInconsistent kb i → IsBaseClause kb mode (absent i ∷ []))

-- so a literal of a fact is of one in a conflict where clauses with the fact's unit base clauses leave it open
abbrev pub OpenFactsConflict : Type 0
OpenFactsConflict = (kb : Knowledge) (mode : Repairs) (clauses : List (List ℕ)) (l : ℕ) → variable_of l < length kb.facts
    → HasUnits kb mode (Contains clauses) (variable_of l) → IsUndecided (Contains clauses) l → IsInConflict kb (variable_of l)

-- and a clause over the components and the absent selector may be learned where all its literals are left open
abbrev pub OpenLiteralsMayBeLearned : Type 0
OpenLiteralsMayBeLearned = (kb : Knowledge) (mode : Repairs) (a : Asked) (facts clause : List ℕ) (clauses : List (List ℕ))
    → ((cause : List ℕ) → Contains a.causes cause → AreFacts kb cause) → AreComponents kb a.causes facts
    → IsInside (has (scope_of kb a facts)) clause → ¬ Contains clause (present (selector_of kb a.candidate))
    → ((i : ℕ) → Contains facts i → HasUnits kb mode (Contains clauses) i) → All (IsUndecided (Contains clauses)) clause → All (MayLearn kb a) clause

-- clauses that are live, and among which are those of the scope, say over the scope what all live clauses say
abbrev pub LoadedClausesDecide : Type 0
LoadedClausesDecide = (input : Input) (before : List Line) (scope : List ℕ) (clauses : List (List ℕ))
    → ScopeDecides scope (Live input.kb before) → ((c : List ℕ) → Contains clauses c → Live input.kb before c)
    → ((c : List ℕ) → Live input.kb before c → IsInside (has scope) c → Contains clauses c)
    → SayTheSame scope (Live input.kb before) (Contains clauses)
    × SayTheSame scope (Contains clauses) (Inside (has scope) (Contains clauses))

-- where lines tell a start, its learned clauses are apart exactly where theirs are
abbrev pub StartsCarryApart : Type 0
StartsCarryApart = (kb : Knowledge) (start : Start) (before : List Line) → Tells (length kb.facts) start before
    → AreApart kb (IsAmong start.learned) ↔ LearnedApart kb before
