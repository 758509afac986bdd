-- Literals as numbers: 2 * v says that variable v is present, and 2 * v + 1 that it is absent.
use Rattle.std.specs.Prelude.{◌==◌, ◌<◌, ℕ, ◌+◌, ◌-◌, ◌*◌, ◌/◌, ◌%◌, Bool, List, All, AllPairs, ◌≢◌}

-- the literal that says the contrary
unfoldable pub opposite_of : ℕ → ℕ
opposite_of l = (l + 1) - 2 * (l % 2)

-- the variable of which the literal speaks
unfoldable pub variable_of : ℕ → ℕ
variable_of l = l / 2

-- whether the literal says that its variable is present
unfoldable pub is_present : ℕ → Bool
is_present l = l % 2 == 0

-- each literal has a variable below the number of variables
abbrev pub AreBelow : ℕ → List ℕ → Type 0
AreBelow variables literals = All (λ l. variable_of l < variables) literals

-- no two of the literals have one variable
abbrev pub HaveDistinctVariables : List ℕ → Type 0
HaveDistinctVariables literals = AllPairs (λ k l. variable_of k ≢ variable_of l) literals
