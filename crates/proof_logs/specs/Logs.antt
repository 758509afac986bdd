-- What a log of learned clauses tells, and what a call does to it.
use Rattle.std.specs.Prelude.{◌≡◌, ◌≤◌, ◌+◌, ◌-◌, ◌^◌, ◌++◌, min, ℕ, List, [], ◌∷◌, Option, Some, None}
use Rattle.proof_logs.specs.declared.log_fault.LogFault.{LogFault}
use Rattle.proof_logs.specs.declared.log_fault.LogFault.TheVariants as fault

-- a learned clause with its number
pub record Learned : Type 0 where
  pub number : ℕ
  pub clause : List ℕ

-- the clauses that a log has got, in order, and the one on which it failed
pub record LogContent : Type 0 where
  pub clauses : List Learned
  pub torn : Option Learned

-- there is no torn clause, where the log tells
abbrev pub IsWhole : Option LogContent → Type 0
IsWhole None = Unit {0}
IsWhole (Some content) = content.torn ≡ None

-- the clause comes last, with its number, and there is still no torn clause; a log that tells goes on telling
abbrev pub Appends : Option LogContent → Option LogContent → ℕ → List ℕ → Type 0
Appends None after number clause = IsWhole after
Appends (Some before) after number clause =
    after ≡ Some (record before { clauses = before.clauses ++ record { number = number; clause = clause } ∷ [] })

-- a failure leaves the clause torn, where the log tells
abbrev pub TearsAt : Option LogContent → Option LogContent → ℕ → List ℕ → Type 0
TearsAt None after number clause = Unit {0}
TearsAt (Some before) after number clause =
    after ≡ Some (record before { torn = Some (record { number = number; clause = clause }) })

-- the log has what it had; one that told nothing may tell of no torn clause
abbrev pub HasWhatItHad : Option LogContent → Option LogContent → Type 0
HasWhatItHad None after = IsWhole after
HasWhatItHad (Some before) after = after ≡ Some before

-- that is so after a failure, and want of memory leaves what was
abbrev pub Tears : Option LogContent → Option LogContent → ℕ → List ℕ → LogFault → Type 0
Tears before after number clause fault.Failed = TearsAt before after number clause
Tears before after number clause fault.NoMemory = HasWhatItHad before after

-- the greatest count, at which a count stays
abbrev pub most_faults : ℕ
most_faults = 2 ^ 64 - 1

-- a fault was counted; at its greatest value the count stays, and has risen there too
pub record Rises (before now : ℕ) : Type 0 where
  pub rose : min (before + 1) most_faults ≤ now
  pub never_falls : before ≤ now
  pub stays : before ≡ most_faults → now ≡ most_faults

-- the count rises where the log failed, and stays at want of memory
abbrev pub RisesAt : ℕ → ℕ → LogFault → Type 0
RisesAt before now fault.Failed = Rises before now
RisesAt before now fault.NoMemory = now ≡ before
