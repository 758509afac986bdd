-- What a search keeps between its steps, and what each step does.
use Rattle.std.specs.Prelude.{◌≡◌, ◌≢◌, ◌⊎◌, ◌<◌, ◌≤◌, ◌+◌, ◌++◌, ℕ, List, [], ◌∷◌, Bool, true, false, None, Contains, All, Option, length, slice_index}
use Rattle.clause_meaning.specs.Literals.{opposite_of, variable_of}
use Rattle.clause_meaning.specs.Refutation.{Refutes}
use Rattle.clause_meaning.specs.Assignments.{IsInside}
use Rattle.clause_arena.specs.State.{State as Arena, LiveIn, Holds, with_clause}
use Rattle.clause_arena.specs.declared.clause_ref.ClauseRef.{ClauseRef}
use Rattle.cdcl_trail.specs.declared.trail_entry.TrailEntry.{TrailEntry}
use Rattle.cdcl_trail.specs.Assigned.{IsTrueOn, IsUnassigned}
use Rattle.cdcl_trail.specs.State.{State, with_entry}
use Rattle.cdcl_trail.specs.Fits.{IsFalsified}
use Rattle.cdcl_trail.specs.Choices.{AreAssigned}
use Rattle.clause_learning.specs.Levels.{IsKnownAt}
use Rattle.clause_meaning.specs.Learning.{is_in, OccursIn}
use Rattle.clause_learning.specs.Searching.{Searched, IsSearching, AreAssumed, UnitsStand}
use Rattle.clause_learning.specs.Lessons.{IsLesson}
use Rattle.cdcl_core.specs.declared.seeking.Asked.{Asked}
use Rattle.cdcl_core.specs.declared.seeking.Asked.TheVariants as asked
use Rattle.cdcl_core.specs.declared.seeking.Step.{Step}
use Rattle.cdcl_core.specs.declared.seeking.Step.TheVariants as step
use Rattle.cdcl_core.specs.declared.seeking.Stop.{Stop}
use Rattle.cdcl_core.specs.declared.seeking.Stop.TheVariants as stop
use Rattle.cdcl_core.specs.declared.outcome.Budget.{Budget}
use Rattle.cdcl_core.specs.declared.outcome.Outcome.{Outcome}
use Rattle.cdcl_core.specs.declared.outcome.Outcome.TheVariants as outcome
use Rattle.cdcl_core.specs.declared.outcome.SolveFault.{SolveFault}
use Rattle.cdcl_core.specs.declared.outcome.SolveFault.TheVariants as fault
use Rattle.cdcl_core.specs.State.{State as Shown, LiveIn as ShownLive}
use Rattle.cdcl_core.specs.Store.{StoreState, AreCounted}
use Rattle.cdcl_core.specs.Shown.{literals_on}
use Rattle.cdcl_core.specs.Changes.{live_in}
use Rattle.proof_logs.specs.Logs.{Learned, LogContent, Appends, HasWhatItHad, TearsAt, Rises}
use Rattle.cdcl_core.specs.Learning.{IsRefuted, IsNew, with_learned}
use Rattle.cdcl_core.specs.Solving.{IsModelOf}

-- the literal is assumed, or its variable stands in a live clause
abbrev pub IsSought : List ℕ → Arena → ℕ → Type 0
IsSought assume arena l = Contains assume l ⊎ ((k : ℕ) × (variable_of k ≡ variable_of l) × OccursIn (LiveIn arena) k)

-- a search for values of the focus: up to the level `assumed` each guess is an assumption, and above it all assumptions are known
pub record Seeks (assume : List ℕ) (trail : State) (arena : Arena) (assumed : ℕ) : Type 0 where
  pub searching : IsSearching trail arena
  pub stand : UnitsStand (Searched trail arena) trail.entries
  pub counted : AreCounted trail arena.live
  pub in_range : All (λ v. v < trail.variables) trail.focus
  pub inside : IsInside (is_in trail.focus) assume
  pub reached : assumed ≤ trail.level
  pub given : AreAssumed (Contains assume) trail.entries assumed
  pub sought : AreAssumed (IsSought assume arena) trail.entries trail.level
  pub known : assumed < trail.level → (l : ℕ) → Contains assume l → IsKnownAt trail.entries assumed l

-- the variables, the focus and the counts stay
pub record IsSameQuestion (old new : State) : Type 0 where
  pub variables : new.variables ≡ old.variables
  pub focus : new.focus ≡ old.focus
  pub counts : new.counts ≡ old.counts

-- the literal was true, or is fixed now; or its opposite is true
abbrev pub Fixes : State → State → ℕ → Bool → Type 0
Fixes old new l true = ((new ≡ old) × IsTrueOn old.entries l) ⊎ ((new ≡ with_entry old old.level l None) × IsUnassigned old.entries (variable_of l))
Fixes old new l false = (new ≡ old) × IsTrueOn old.entries (opposite_of l)

-- a search on level 0, before the first guess
pub record Begins (trail : State) (arena : Arena) : Type 0 where
  pub searching : IsSearching trail arena
  pub on_zero : trail.level ≡ 0

-- the literal of the clause, where it is a unit clause of the focus, stands on level 0
abbrev pub StandsAt : State → List ℕ → Type 0
StandsAt trail clause = (u : ℕ) → clause ≡ u ∷ [] → is_in trail.focus (variable_of u) ≡ true → IsKnownAt trail.entries 0 u

-- new entries come last
abbrev pub Extends : State → State → Type 0
Extends old new = (more : List TrailEntry) × (new.entries ≡ old.entries ++ more)

-- what stands in the way of the assumptions
abbrev pub Asks : List TrailEntry → List ℕ → Asked → Type 0
Asks entries assume asked.AreTrue = (l : ℕ) → Contains assume l → IsTrueOn entries l
Asks entries assume (asked.IsFalse l) = Contains assume l × IsTrueOn entries (opposite_of l)
Asks entries assume (asked.IsOpen l) = Contains assume l × IsUnassigned entries (variable_of l)

-- a literal of the focus whose variable is counted is guessed, or each variable of the focus that is counted is assigned
abbrev pub Guesses : State → State → Bool → Type 0
Guesses old new false = (new ≡ old) × AreAssigned old.entries old.counts old.focus
Guesses old new true = (l : ℕ) × Contains old.focus (variable_of l) × (slice_index old.counts (variable_of l) ≢ 0) × IsUnassigned old.entries (variable_of l)
    × (new ≡ with_entry old (old.level + 1) l None)

-- the values that the entries give are a model
abbrev pub IsModelOn : List ℕ → State → Arena → Type 0
IsModelOn assume trail arena = IsModelOf (LiveIn arena) trail.focus assume (literals_on trail.entries)

-- one literal more is assigned, and the search goes on; or it ends
abbrev pub Steps : List ℕ → State → State → Arena → Step → Type 0
Steps assume old new arena step.Refuted = Refutes (Searched new arena) (Contains assume)
Steps assume old new arena step.Model = IsModelOn assume new arena
Steps assume old new arena (step.Goes assumed) = Seeks assume new arena assumed × (length old.entries < length new.entries)

-- where a search stops: at the end, or at a clause that is falsified above the assumptions
abbrev pub Stops : List ℕ → State → Arena → Stop → Type 0
Stops assume trail arena stop.Refuted = Refutes (Searched trail arena) (Contains assume)
Stops assume trail arena stop.Model = IsModelOn assume trail arena
Stops assume trail arena (stop.Falsified clause assumed) = Seeks assume trail arena assumed × (assumed < trail.level) × IsFalsified trail arena clause

-- what a solver with such a store shows, without values
abbrev pub bare : StoreState → Shown
bare parts = record { variables = parts.arena.variables; live = live_in parts; next = parts.next; values = None }

-- the same by what the store shows
abbrev pub StoreStops : List ℕ → StoreState → Stop → Type 0
StoreStops assume parts stop.Refuted = IsRefuted (bare parts) parts.trail.focus assume
StoreStops assume parts stop.Model = IsModelOf (ShownLive (bare parts)) parts.trail.focus assume (literals_on parts.trail.entries)
StoreStops assume parts (stop.Falsified clause assumed) = Seeks assume parts.trail parts.arena assumed × (assumed < parts.trail.level)
    × IsFalsified parts.trail parts.arena clause × (IsRefuted (bare parts) parts.trail.focus assume → ⊥)

-- the trail after a lesson: cut back, with the asserting literal last
pub record IsAfter (before : Arena) (trail : State) (arena : Arena) (reference : ClauseRef) (clause : List ℕ) (asserting back : ℕ) : Type 0 where
  pub searching : IsSearching trail before
  pub lesson : IsLesson (Searched trail before) trail clause asserting back
  pub holds : Holds before arena (with_clause before.live reference.place clause)

-- a clause was learned, and the log has it
abbrev pub LearnsOne : Shown → Shown → List ℕ → Option LogContent → Option LogContent → ℕ → ℕ → Type 0
LearnsOne old new scope before after was now =
    (entry : Learned) × IsNew old scope entry × (new ≡ with_learned old entry) × Appends before after entry.number entry.clause × (now ≡ was)

-- none was: the log failed on it, or memory ran out
abbrev pub FailsOn : Shown → Shown → List ℕ → Option LogContent → Option LogContent → ℕ → ℕ → SolveFault → Type 0
FailsOn old new scope before after was now fault.Log =
    (entry : Learned) × IsNew old scope entry × (new ≡ old) × TearsAt before after entry.number entry.clause × Rises was now
FailsOn old new scope before after was now fault.NoMemory = (new ≡ old) × HasWhatItHad before after × (now ≡ was)

-- the log has the clause, and no fault more
abbrev pub LogTakes : Option LogContent → Option LogContent → ℕ → ℕ → ℕ → List ℕ → Type 0
LogTakes before after was now number clause = Appends before after number clause × (now ≡ was)

-- the log failed on it, or memory ran out
abbrev pub LogRefuses : Option LogContent → Option LogContent → ℕ → ℕ → ℕ → List ℕ → SolveFault → Type 0
LogRefuses before after was now number clause fault.Log = TearsAt before after number clause × Rises was now
LogRefuses before after was now number clause fault.NoMemory = HasWhatItHad before after × (now ≡ was)

-- whether a search ended with a model
abbrev pub is_model_of : Outcome → Bool
is_model_of outcome.Model = true
is_model_of outcome.Refuted = false
is_model_of outcome.Spent = false

-- what an outcome says, by what the store shows
abbrev pub StoreEnds : StoreState → List ℕ → List ℕ → Budget → Outcome → Type 0
StoreEnds parts scope assume budget outcome.Refuted = IsRefuted (bare parts) scope assume
StoreEnds parts scope assume budget outcome.Spent = (budget.used ≡ budget.limit) × (IsRefuted (bare parts) scope assume → ⊥)
StoreEnds parts scope assume budget outcome.Model = IsModelOf (ShownLive (bare parts)) scope assume (literals_on parts.trail.entries)
