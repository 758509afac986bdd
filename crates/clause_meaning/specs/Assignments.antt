-- What an assignment of the variables makes true; the clauses of a scope.
use Rattle.std.specs.Prelude.{◌≡◌, ◌⊎◌, ℕ, List, Bool, true, false, Contains}
use Rattle.clause_meaning.specs.Literals.{variable_of, is_present}

-- the assignment gives the literal's variable what the literal says
abbrev pub IsTrueIn : (ℕ → Bool) → ℕ → Type 0
IsTrueIn v l = v (variable_of l) ≡ is_present l

-- some literal of the clause is true
abbrev pub Satisfies : (ℕ → Bool) → List ℕ → Type 0
Satisfies v clause = (l : ℕ) × Contains clause l × IsTrueIn v l

-- each clause of S is satisfied
abbrev pub SatisfiesAll : (ℕ → Bool) → (List ℕ → Type 0) → Type 0
SatisfiesAll v S = (c : List ℕ) → S c → Satisfies v c

-- all variables of the clause are in the scope
abbrev pub IsInside : (ℕ → Bool) → List ℕ → Type 0
IsInside scope clause = (l : ℕ) → Contains clause l → scope (variable_of l) ≡ true

-- no variable of the clause is in the scope
abbrev pub IsOutside : (ℕ → Bool) → List ℕ → Type 0
IsOutside scope clause = (l : ℕ) → Contains clause l → scope (variable_of l) ≡ false

-- no clause of S has variables both in the scope and outside it
abbrev pub Separates : (ℕ → Bool) → (List ℕ → Type 0) → Type 0
Separates scope S = (c : List ℕ) → S c → IsInside scope c ⊎ IsOutside scope c

-- the clauses of S whose variables are all in the scope
abbrev pub Inside : (ℕ → Bool) → (List ℕ → Type 0) → List ℕ → Type 0
Inside scope S c = S c × IsInside scope c
