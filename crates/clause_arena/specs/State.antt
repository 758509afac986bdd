-- What an `Arena` shows: its live clauses, each with the number of its reference, and how long a clause may be that it takes without
-- memory.
use Rattle.std.specs.Prelude.{◌≡◌, ◌<◌, ◌==◌, ℕ, List, [], ◌∷◌, ◌++◌, Any, AllPairs, Contains, filter, map, not}
use Rattle.clause_meaning.specs.Literals.{AreBelow, HaveDistinctVariables}
use Rattle.clause_arena.specs.declared.clause_ref.ClauseRef.{ClauseRef}

-- a live clause with its reference
pub record HeldClause : Type 0 where
  pub reference : ℕ
  pub literals : List ℕ

pub record State : Type 0 where
  pub variables : ℕ
  pub live : List HeldClause
  pub spare : ℕ

-- the reference names the clause
abbrev pub Names : State → ℕ → List ℕ → Type 0
Names state reference literals = Contains state.live (record { reference = reference; literals = literals })

-- the reference names a clause
abbrev pub IsLive : State → ℕ → Type 0
IsLive state reference = Any (λ held. held.reference ≡ reference) state.live

-- some live clause is the clause
abbrev pub LiveIn : State → List ℕ → Type 0
LiveIn state clause = Any (λ held. held.literals ≡ clause) state.live

-- each clause has a greater reference than those before it
abbrev pub AreAscending : List HeldClause → Type 0
AreAscending live = AllPairs (λ a b. a.reference < b.reference) live

-- what a clause may be: its variables are in range and distinct
pub record IsClause (variables : ℕ) (literals : List ℕ) : Type 0 where
  pub in_range : AreBelow variables literals
  pub distinct : HaveDistinctVariables literals

-- the clause comes last
abbrev pub with_clause : List HeldClause → ℕ → List ℕ → List HeldClause
with_clause live reference literals = live ++ record { reference = reference; literals = literals } ∷ []

-- the clauses of other references
abbrev pub without : List HeldClause → ℕ → List HeldClause
without live reference = filter (λ held. not (held.reference == reference)) live

-- the clauses are these, over the same variables; the spare number may differ
pub record Holds (old new : State) (clauses : List HeldClause) : Type 0 where
  pub variables : new.variables ≡ old.variables
  pub live : new.live ≡ clauses

-- the clause under its new reference
abbrev pub renamed : (ℕ → ℕ) → HeldClause → HeldClause
renamed f held = record { reference = f held.reference; literals = held.literals }

-- the reference under its new number
abbrev pub renumbered : (ℕ → ℕ) → ClauseRef → ClauseRef
renumbered f reference = record { place = f reference.place }

-- each live clause, and each given reference, has its new number
abbrev pub Renames : State → State → List ClauseRef → List ClauseRef → Type 0
Renames old new given answered = (f : ℕ → ℕ) × Holds old new (map (renamed f) old.live) × (answered ≡ map (renumbered f) given)
