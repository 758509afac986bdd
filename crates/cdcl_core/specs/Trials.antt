-- What the tests keep: a solver over a few variables, whose clauses are over them.
use Rattle.std.specs.Prelude.{◌≡◌, ℕ, List, [], ◌∷◌}
use Rattle.clause_meaning.specs.Literals.{AreBelow}
use Rattle.clause_meaning.specs.Assignments.{Separates}
use Rattle.clause_meaning.specs.Learning.{is_in}
use Rattle.cdcl_core.specs.State.{State, LiveIn}

-- each clause is over so many variables
pub record IsSmall (n : ℕ) (state : State) : Type 0 where
  pub variables : state.variables ≡ n
  pub below : (clause : List ℕ) → LiveIn state clause → AreBelow n clause

-- and the next number is the first one
pub record IsFresh (n : ℕ) (state : State) : Type 0 where
  pub small : IsSmall n state
  pub next : state.next ≡ 0

-- a solver over four variables with no learned clause, where no clause crosses the border of the first two
pub record IsParted (state : State) : Type 0 where
  pub variables : state.variables ≡ 4
  pub separates : Separates (is_in (0 ∷ 1 ∷ [])) (LiveIn state)
  pub next : state.next ≡ 0
