-- What a search for a model needs, does and leaves.
use Rattle.std.specs.Prelude.{◌≡◌, ◌⊎◌, ◌<◌, ◌≤◌, ◌+◌, ◌-◌, ◌^◌, ◌++◌, ℕ, List, length, true, Option, Some, None, Contains, All, Result, Ok, Err}
use Rattle.clause_meaning.specs.Literals.{variable_of}
use Rattle.clause_meaning.specs.Assignments.{IsTrueIn, SatisfiesAll, IsInside, Inside, Separates}
use Rattle.clause_meaning.specs.Learning.{is_in, OccursIn}
use Rattle.cdcl_core.specs.declared.outcome.Outcome.{Outcome}
use Rattle.cdcl_core.specs.declared.outcome.Outcome.TheVariants as outcome
use Rattle.cdcl_core.specs.declared.outcome.SolveFault.{SolveFault}
use Rattle.cdcl_core.specs.declared.outcome.SolveFault.TheVariants as fault
use Rattle.cdcl_core.specs.declared.outcome.Budget.{Budget}
use Rattle.cdcl_core.specs.State.{State, LiveIn, value_in}
use Rattle.cq_terms.specs.Lists.{IsAscending}
use Rattle.proof_logs.specs.Logs.{Learned, LogContent, IsWhole, Rises}
use Rattle.cdcl_core.specs.Learning.{IsRefuted, MayLearn, AreLearned, JoinNothing, with_all}

-- what may be asked: an ascending scope, with the variables of the assumptions, and all or none of those of each live clause
pub record AreAskable (state : State) (scope assume : List ℕ) : Type 0 where
  pub ascending : IsAscending scope
  pub in_range : All (λ v. v < state.variables) scope
  pub assumed : IsInside (is_in scope) assume
  pub separates : Separates (is_in scope) (LiveIn state)

-- a budget that isn't overdrawn, and for which there are numbers
pub record Affords (state : State) (budget : Budget) : Type 0 where
  pub within : budget.used ≤ budget.limit
  pub numbers : state.next + (budget.limit - budget.used) < 2 ^ 64

-- the literals satisfy the assumptions and the clauses S of the scope; what isn't in the scope, or in no clause of S and no assumption, is
-- absent
pub record IsModelOf (S : List ℕ → Type 0) (scope assume literals : List ℕ) : Type 0 where
  pub assumed : (l : ℕ) → Contains assume l → IsTrueIn (value_in literals) l
  pub satisfied : SatisfiesAll (value_in literals) (Inside (is_in scope) S)
  pub others : (v : ℕ) → value_in literals v ≡ true
      → (is_in scope v ≡ true) × (l : ℕ) × (variable_of l ≡ v) × (Contains assume l ⊎ OccursIn S l)

-- the state without values
abbrev pub cleared : State → State
cleared state = record state { values = None }

-- the clauses that a call learned, in order: each might be learned when it was, and they are live now, behind those before the call
pub record Learns (old new : State) (scope assume : List ℕ) (was now : Budget) (entries : List Learned) : Type 0 where
  pub may : AreLearned old scope assume entries
  pub join : JoinNothing old entries
  pub live : new ≡ with_all old entries
  pub used : now.used ≡ was.used + length entries
  pub limit : now.limit ≡ was.limit
  pub within : now.used ≤ now.limit

-- the log got the clauses last; a log that tells nothing tells of no torn clause
abbrev pub LogGets : Option LogContent → Option LogContent → List Learned → Type 0
LogGets None after entries = IsWhole after
LogGets (Some before) after entries = after ≡ Some (record before { clauses = before.clauses ++ entries })

-- it got them and failed on one more, where it tells
abbrev pub LogFailsOn : Option LogContent → Option LogContent → List Learned → Learned → Type 0
LogFailsOn None after entries torn = Unit {0}
LogFailsOn (Some before) after entries torn = after ≡ Some (record before { clauses = before.clauses ++ entries; torn = Some torn })

-- what an outcome says of the clauses that are live at the end
abbrev pub Ends : State → List ℕ → List ℕ → Budget → Outcome → Type 0
Ends state scope assume budget outcome.Refuted = IsRefuted state scope assume × (state.values ≡ None)
Ends state scope assume budget outcome.Spent =
    (budget.used ≡ budget.limit) × (IsRefuted state scope assume → ⊥) × (state.values ≡ None)
Ends state scope assume budget outcome.Model =
    (literals : List ℕ) × (state.values ≡ Some literals) × IsModelOf (LiveIn state) scope assume literals

-- the clause on which a log failed might be learned, and there was budget for it
pub record IsTorn (state : State) (scope assume : List ℕ) (budget : Budget) (before after : Option LogContent) (entries : List Learned) (torn : Learned)
    : Type 0 where
  pub may : MayLearn state scope assume torn
  pub affords : budget.used < budget.limit
  pub told : LogFailsOn before after entries torn

-- what the log tells at the end, and its count of faults: it rose where the log failed, and stayed in each other case
abbrev pub LogEnds : State → List ℕ → List ℕ → Budget → Option LogContent → Option LogContent → ℕ → ℕ → List Learned → Result Outcome SolveFault → Type 0
LogEnds state scope assume budget before after was now entries (Ok outcome) = LogGets before after entries × (now ≡ was)
LogEnds state scope assume budget before after was now entries (Err fault.NoMemory) = LogGets before after entries × (now ≡ was)
LogEnds state scope assume budget before after was now entries (Err fault.Log) =
    Rises was now × (torn : Learned) × IsTorn state scope assume budget before after entries torn
