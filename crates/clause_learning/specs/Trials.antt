-- What the tests keep: a search over three variables, whose clauses have two or more literals.
use Rattle.std.specs.Prelude.{◌≡◌, ◌≤◌, ℕ, List, [], ◌∷◌, All, length}
use Rattle.clause_meaning.specs.Literals.{AreBelow, HaveDistinctVariables}
use Rattle.clause_arena.specs.State.{State as Arena}
use Rattle.cdcl_trail.specs.State.{State}
use Rattle.cdcl_trail.specs.Fits.{IsComplete}
use Rattle.clause_learning.specs.Searching.{IsSearching}

-- two or more literals of the first three variables, no two of one
pub record IsLong (clause : List ℕ) : Type 0 where
  pub two : 2 ≤ length clause
  pub in_range : AreBelow 3 clause
  pub distinct : HaveDistinctVariables clause

-- an arena of three variables with such clauses alone
pub record AreLong (arena : Arena) : Type 0 where
  pub variables : arena.variables ≡ 3
  pub clauses : All (λ held. IsLong held.literals) arena.live

-- a search over such clauses that has propagated
pub record IsReady (trail : State) (arena : Arena) : Type 0 where
  pub searching : IsSearching trail arena
  pub complete : IsComplete trail arena
  pub settled : trail.settled ≡ length trail.entries
  pub focus : trail.focus ≡ 0 ∷ 1 ∷ 2 ∷ []
  pub long : AreLong arena
