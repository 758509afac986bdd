-- What a `Checker` shows: its live clauses with their numbers, in the order of adding.
use Rattle.std.specs.Prelude.{◌≡◌, ℕ, ◌+◌, List, [], ◌∷◌, ◌++◌, Any, not, ◌==◌, filter}

-- a clause with its number
pub record Numbered : Type 0 where
  pub number : ℕ
  pub literals : List ℕ

-- the number of variables, the live clauses, and the number that the next clause gets
pub record State : Type 0 where
  pub variables : ℕ
  pub live : List Numbered
  pub next : ℕ

-- some live clause is the clause
abbrev pub LiveIn : List Numbered → List ℕ → Type 0
LiveIn live clause = Any (λ entry. entry.literals ≡ clause) live

-- some live clause has the number
abbrev pub IsLive : List Numbered → ℕ → Type 0
IsLive live number = Any (λ entry. entry.number ≡ number) live

-- the live clauses of other numbers
abbrev pub without : List Numbered → ℕ → List Numbered
without live number = filter (λ entry. not (entry.number == number)) live

-- no clause yet
abbrev pub empty_state : ℕ → State
empty_state variables = record { variables = variables; live = []; next = 0 }

-- the clause comes last, with the next number
abbrev pub with_clause : State → List ℕ → State
with_clause state clause =
    record state { live = state.live ++ record { number = state.next; literals = clause } ∷ []; next = state.next + 1 }
