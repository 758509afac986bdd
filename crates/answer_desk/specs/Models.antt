-- A model of the clauses of a scope, and the facts that are present by it.
use Rattle.std.specs.Prelude.{◌≡◌, ℕ, List, Some}
use Rattle.cdcl_core.specs.State as solver
use Rattle.cdcl_core.specs.State.{LiveIn}
use Rattle.cdcl_core.specs.Solving.{IsModelOf}

-- the solver has found a model of the clauses of the scope under the assumptions
abbrev pub HasModel : solver.State → List ℕ → List ℕ → Type 0
HasModel state scope assume = (literals : List ℕ) × (state.values ≡ Some literals) × IsModelOf (LiveIn state) scope assume literals
