-- The clause of a cause of a candidate, whose selector is read as "this repair doesn't entail the candidate".
use Rattle.std.specs.Prelude.{ℕ, List, [], ◌∷◌, ◌++◌, map}
use Rattle.repair_clauses.specs.BaseClauses.{absent}

-- some fact of the cause is absent, or the selector is
abbrev pub cause_clause : ℕ → List ℕ → List ℕ
cause_clause selector cause = map absent (cause ++ selector ∷ [])
