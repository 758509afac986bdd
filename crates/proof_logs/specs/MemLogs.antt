-- What a `MemLog` shows, and when it fails.
use Rattle.std.specs.Prelude.{◌==◌, ◌+◌, ◌++◌, min, ℕ, List, [], ◌∷◌, Bool, false, Option, Some, None}
use Rattle.proof_logs.specs.Logs.{Learned, LogContent, most_faults}

-- the clauses and their numbers, in order; how many calls there were, which of them is to fail, and how many failed
pub record LogState : Type 0 where
  pub numbers : List ℕ
  pub clauses : List (List ℕ)
  pub torn : Option Learned
  pub calls : ℕ
  pub fail_at : Option ℕ
  pub faults : ℕ

-- no clause and no call yet
abbrev pub empty_log : Option ℕ → LogState
empty_log fail_at = record { numbers = []; clauses = []; torn = None; calls = 0; fail_at = fail_at; faults = 0 }

-- the clauses with their numbers
abbrev pub numbered : List ℕ → List (List ℕ) → List Learned
numbered [] clauses = []
numbered (n ∷ numbers) [] = []
numbered (n ∷ numbers) (clause ∷ clauses) = record { number = n; clause = clause } ∷ numbered numbers clauses

-- what the log tells
abbrev pub content_of : LogState → LogContent
content_of log = record { clauses = numbered log.numbers log.clauses; torn = log.torn }

-- whether the call is the one that is to fail
abbrev pub is_call : ℕ → Option ℕ → Bool
is_call call None = false
is_call call (Some n) = n == call

-- the log after a call that got the clause
abbrev pub with_call : LogState → ℕ → List ℕ → LogState
with_call log number clause =
    record log { numbers = log.numbers ++ number ∷ []; clauses = log.clauses ++ clause ∷ []; calls = min (log.calls + 1) most_faults }

-- the log after a call that failed
abbrev pub with_failure : LogState → ℕ → List ℕ → LogState
with_failure log number clause =
    record log {
      torn = Some (record { number = number; clause = clause });
      calls = min (log.calls + 1) most_faults;
      faults = min (log.faults + 1) most_faults;
    }
