-- A report as a log of learned clauses: those of the `learn` lines behind its last line of another kind.
use Rattle.std.specs.Prelude.{◌≡◌, ◌⊎◌, ℕ, List, [], ◌∷◌, ◌++◌, reverse, map, Option, Some, None}
use Rattle.proof_logs.specs.Logs.{Learned, LogContent}
use Rattle.proof_logs.specs.declared.log_fault.LogFault.{LogFault}
use Rattle.proof_logs.specs.declared.log_fault.LogFault.TheVariants as log_fault
use Rattle.report_text.specs.declared.report.LineFault.{LineFault}
use Rattle.report_text.specs.declared.report.LineFault.TheVariants as line_fault
use Rattle.report_text.specs.declared.line.Line.{Line}
use Rattle.report_text.specs.declared.line.Line.TheVariants as line

-- the clauses of the last `learn` lines, oldest first; the lines stand newest first
abbrev pub last_learned : List Line → List Learned
last_learned [] = []
last_learned (line.Learn number clause ∷ before) = last_learned before ++ record { number = number; clause = clause } ∷ []
last_learned (_ ∷ before) = []

-- the lines before these
abbrev pub before_learned : List Line → List Line
before_learned [] = []
before_learned (line.Learn number clause ∷ before) = before_learned before
before_learned (l ∷ before) = l ∷ before

-- the line of a learned clause
abbrev pub learn_line : Learned → Line
learn_line entry = line.Learn entry.number entry.clause

-- a torn line as a learned clause
abbrev pub as_learned : Line → Learned
as_learned (line.Learn number clause) = record { number = number; clause = clause }
as_learned _ = record { number = 0; clause = [] }

abbrev pub torn_clause : Option Line → Option Learned
torn_clause None = None
torn_clause (Some l) = Some (as_learned l)

-- what the log tells where the report tells these lines and has this torn line
abbrev pub log_content : Option (List Line) → Option Line → Option LogContent
log_content None None = None
log_content None (Some l) = Some (record { clauses = []; torn = Some (as_learned l) })
log_content (Some lines) torn = Some (record { clauses = last_learned (reverse lines); torn = torn_clause torn })

-- where the lines were told they are told, and differ only by `learn` lines at the end
abbrev pub OnlyLearns : Option (List Line) → Option (List Line) → Type 0
OnlyLearns None new = Unit {0}
OnlyLearns (Some old) new = (lines : List Line) × (new ≡ Some lines) × (before_learned (reverse lines) ≡ before_learned (reverse old))

-- the torn line is what it was, or that of a learned clause
abbrev pub TearsLearn : Option Line → Option Line → Type 0
TearsLearn old new = (new ≡ old) ⊎ ((entry : Learned) × (new ≡ Some (learn_line entry)))

-- where the lines were told they are told, and have the clauses behind them as `learn` lines
abbrev pub AddsLearns : Option (List Line) → Option (List Line) → List Learned → Type 0
AddsLearns None new entries = Unit {0}
AddsLearns (Some old) new entries = new ≡ Some (old ++ map learn_line entries)

-- how a fault of a line is one of the log
abbrev pub log_fault_of : LineFault → LogFault
log_fault_of line_fault.Failed = log_fault.Failed
log_fault_of line_fault.NoMemory = log_fault.NoMemory
