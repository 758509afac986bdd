-- What a search keeps: a trail over the clauses of its focus, whose guesses are the first entries of their levels.
use Rattle.std.specs.Prelude.{◌≡◌, ◌≢◌, ◌<◌, ◌≤◌, ℕ, List, [], ◌∷◌, None, true, All, AllPairs}
use Rattle.clause_meaning.specs.Literals.{variable_of, HaveDistinctVariables}
use Rattle.clause_meaning.specs.Assignments.{Separates, Inside}
use Rattle.clause_arena.specs.State.{State as Arena, LiveIn}
use Rattle.cdcl_trail.specs.declared.trail_entry.TrailEntry.{TrailEntry}
use Rattle.cdcl_trail.specs.State.{State}
use Rattle.cdcl_trail.specs.Fits.{Fits}
use Rattle.clause_learning.specs.Levels.{IsKnownAt, AreClosedBelow}
use Rattle.clause_meaning.specs.Learning.{is_in}

-- the live clauses whose variables are all in the list
abbrev pub LiveAmong : List ℕ → Arena → List ℕ → Type 0
LiveAmong variables arena = Inside (is_in variables) (LiveIn arena)

-- the clauses of a search: those whose variables are all in the focus
abbrev pub Searched : State → Arena → List ℕ → Type 0
Searched trail arena = LiveAmong trail.focus arena

-- what each live clause is: it has a literal, and no two of one variable
pub record IsProper (clause : List ℕ) : Type 0 where
  pub some : clause ≢ []
  pub distinct : HaveDistinctVariables clause

-- entries of the focus, up to the current level: levels don't fall; what has no reason is a unit clause on level 0, and else the first
-- of its level; propagation is complete on each level below the current one
pub record AreSearched (focus : List ℕ) (arena : Arena) (entries : List TrailEntry) (level : ℕ) : Type 0 where
  pub in_focus : All (λ entry. is_in focus (variable_of entry.literal) ≡ true) entries
  pub up_to : All (λ entry. entry.level ≤ level) entries
  pub ascending : AllPairs (λ a b. a.level ≤ b.level) entries
  pub guesses : AllPairs (λ a b. b.reason ≡ None → 0 < b.level → a.level < b.level) entries
  pub units : All (λ entry. entry.reason ≡ None → entry.level ≡ 0 → LiveAmong focus arena (entry.literal ∷ [])) entries
  pub closed : AreClosedBelow (LiveAmong focus arena) entries level

-- a trail that fits, over proper clauses of which none crosses the border of the focus
pub record IsSearching (trail : State) (arena : Arena) : Type 0 where
  pub fits : Fits trail arena
  pub proper : (clause : List ℕ) → LiveIn arena clause → IsProper clause
  pub separates : Separates (is_in trail.focus) (LiveIn arena)
  pub searched : AreSearched trail.focus arena trail.entries trail.level

-- up to this level each literal without a reason, above level 0, is given
abbrev pub AreAssumed : (ℕ → Type 0) → List TrailEntry → ℕ → Type 0
AreAssumed L entries level = All (λ entry. entry.reason ≡ None → 0 < entry.level → entry.level ≤ level → L entry.literal) entries

-- the literal of each unit clause of S stands on level 0
abbrev pub UnitsStand : (List ℕ → Type 0) → List TrailEntry → Type 0
UnitsStand S entries = (u : ℕ) → S (u ∷ []) → IsKnownAt entries 0 u
