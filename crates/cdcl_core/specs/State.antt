-- What a `Solver` shows: its live clauses in the order in which they were added, and the values of its last model.
use Rattle.std.specs.Prelude.{◌≡◌, ◌==◌, ◌*◌, ℕ, List, [], ◌∷◌, ◌++◌, Bool, false, Option, Some, None, Any, filter, not}
use Rattle.std.specs.List.{list_any}
use Rattle.std.specs.List.Sorted.{IsPermutation, IsSorted}
use Rattle.std.specs.Ordering.{nat_cmp}
use Rattle.clause_meaning.specs.Literals.{variable_of}

-- a live clause by its ascending literals; a learned one has a number, and a given one has none
pub record LiveClause : Type 0 where
  pub number : Option ℕ
  pub literals : List ℕ

-- `next` is the number of the next learned clause; the values are the literals that the last model makes true, while they are there
pub record State : Type 0 where
  pub variables : ℕ
  pub live : List LiveClause
  pub next : ℕ
  pub values : Option (List ℕ)

-- no clause yet
abbrev pub empty_solver : ℕ → State
empty_solver variables = record { variables = variables; live = []; next = 0; values = None }

-- whether the literals make the variable present
abbrev pub value_in : List ℕ → ℕ → Bool
value_in literals v = list_any (λ l. l == 2 * v) literals

-- some live clause, given or learned, is the clause
abbrev pub LiveIn : State → List ℕ → Type 0
LiveIn state clause = Any (λ entry. entry.literals ≡ clause) state.live

-- the number, before the others, where there is one
abbrev pub put_number : Option ℕ → List ℕ → List ℕ
put_number None numbers = numbers
put_number (Some n) numbers = n ∷ numbers

-- the numbers of the learned clauses, in order
abbrev pub numbers_in : List LiveClause → List ℕ
numbers_in [] = []
numbers_in (entry ∷ entries) = put_number entry.number (numbers_in entries)

-- whether the clause has a literal of the variable
abbrev pub mentions : ℕ → List ℕ → Bool
mentions v literals = list_any (λ l. variable_of l == v) literals

-- whether the number is this one
abbrev pub is_number : ℕ → Option ℕ → Bool
is_number n None = false
is_number n (Some m) = m == n

-- the second list has the literals of the first, ascending
pub record AscendsAs (clause shown : List ℕ) : Type 0 where
  pub permutation : IsPermutation clause shown
  pub sorted : IsSorted nat_cmp shown

-- one more given clause
abbrev pub with_given : State → List ℕ → State
with_given state literals =
    record state { live = state.live ++ record { number = None; literals = literals } ∷ []; values = None }

-- the clause is added last, by its ascending literals
abbrev pub AddsClause : State → State → List ℕ → Type 0
AddsClause old new clause = (shown : List ℕ) × AscendsAs clause shown × (new ≡ with_given old shown)

-- the clauses without the variable
abbrev pub without_variable : List LiveClause → ℕ → List LiveClause
without_variable live v = filter (λ entry. not (mentions v entry.literals)) live

-- the clauses but the learned one of the number
abbrev pub without_number : List LiveClause → ℕ → List LiveClause
without_number live n = filter (λ entry. not (is_number n entry.number)) live
