-- What a try does: what it learns, how it ends, and which lines it writes.
use Rattle.std.specs.Prelude.{◌≡◌, ◌⊎◌, ◌<◌, ◌≤◌, ◌+◌, ℕ, List, [], ◌∷◌, ◌++◌, map, Option, Some, None, IfSome}
use Rattle.cq_terms.specs.Conflicts.{ConflictGraph}
use Rattle.cdcl_core.specs.State as solver
use Rattle.proof_logs.specs.Logs.{Learned}
use Rattle.cdcl_core.specs.Learning.{IsRefuted, MayLearn}
use Rattle.cdcl_core.specs.Solving.{Learns, cleared}
use Rattle.cdcl_core.specs.declared.outcome.Budget.{Budget}
use Rattle.priority_graph.specs.Priority.{Priority}
use Rattle.report_text.specs.declared.line.Line.{Line}
use Rattle.report_text.specs.declared.line.Line.TheVariants as line
use Rattle.report_text.specs.declared.line.How.{How}
use Rattle.report_text.specs.declared.line.How.TheVariants as how
use Rattle.answer_evidence.specs.Aims.{asked_for, assumed_for, Shows, IsHard, IsCoreOver}
use Rattle.answer_evidence.specs.Logging.{learn_line}
use Rattle.answer_evidence.specs.Shown.{SeesCore}
use Rattle.answer_evidence.specs.declared.aim.Aim.{Aim}
use Rattle.answer_evidence.specs.declared.evidence.Evidence.{Evidence}
use Rattle.answer_evidence.specs.declared.opening.Opening.{Opening}

-- the torn line, where there is one, as lines
abbrev pub torn_part : Option Line → List Line
torn_part None = []
torn_part (Some l) = l ∷ []

-- where the lines were told they are told, with lines behind them that are these, but for the torn one
abbrev pub Gets : Option (List Line) → Option (List Line) → Option Line → List Line → Type 0
Gets was now torn added =
    IfSome was (λ lines. (kept : List Line) × (now ≡ Some (lines ++ kept)) × (kept ++ torn_part torn ≡ added))

-- a try: over which priority and conflicts, what it looks for, the selector and the scope of its candidate, and how many cores there were
pub record Try : Type 0 where
  pub better : Priority
  pub conflicts : ConflictGraph
  pub aim : Aim
  pub selector : ℕ
  pub scope : List ℕ
  pub cores : ℕ

-- what it assumes
abbrev pub assumed_in : Try → List ℕ
assumed_in t = assumed_for t.aim t.selector

-- what an open answer tries, over a priority and conflicts
abbrev pub try_at : Priority → ConflictGraph → Opening → ℕ → Aim → Try
try_at p g opening cores aim =
    record { better = p; conflicts = g; aim = aim; selector = opening.selector; scope = opening.scope.items; cores = cores }

-- the search of a try: the clauses of the solver before it and after it, and what was used of the budget
pub record Search : Type 0 where
  pub old : solver.State
  pub new : solver.State
  pub was : Budget
  pub now : Budget

-- it learned these clauses
abbrev pub Learnt : Try → Search → List Learned → Type 0
Learnt t s entries = Learns (cleared s.old) (cleared s.new) t.scope (assumed_in t) s.was s.now entries

-- the clauses after it refute what the try assumes
abbrev pub Refuted : Try → Search → Type 0
Refuted t s = IsRefuted s.new t.scope (assumed_in t)

-- they don't, nothing is left of the budget, and no direct core shows what the try looks for
abbrev pub Spent : Try → Search → Type 0
Spent t s = (s.now.used ≡ s.now.limit) × ¬ Refuted t s × IsHard t.better t.conflicts t.aim

-- a core of the try, which shows what it looks for
pub record IsCoreOf (t : Try) (kept dropped : List ℕ) : Type 0 where
  pub over : IsCoreOver t.better kept dropped
  pub shows : Shows t.aim kept dropped

-- the lines of a try, oldest first: its first one, those of the learned clauses, and the last ones
abbrev pub try_line : Try → Line
try_line t = line.Try (asked_for t.aim) (assumed_in t)

abbrev pub lines_of : Try → List Learned → List Line → List Line
lines_of t entries last = try_line t ∷ map learn_line entries ++ last

-- the last lines of a try with a core
abbrev pub core_lines : ℕ → List ℕ → List ℕ → List Line
core_lines number kept dropped = line.Core number kept dropped ∷ line.Done how.Model (Some number) ∷ []

-- how a try ended, what its last lines are, and what the evidence has become
abbrev pub EndsAs : Try → Search → List (List ℕ) → Evidence → Evidence → List Line → How → Type 0
EndsAs t s causes old new last how.Refuted = Refuted t s × (last ≡ line.Done how.Refuted None ∷ []) × (new ≡ old)
EndsAs t s causes old new last how.Spent = Spent t s × (last ≡ line.Done how.Spent None ∷ []) × (new ≡ old)
EndsAs t s causes old new last how.Model = (kept : List ℕ) × (dropped : List ℕ) × IsCoreOf t kept dropped
    × (last ≡ core_lines t.cores kept dropped) × SeesCore causes kept dropped old new

-- a try that came to its end: what was learned, how it ended, and that the report got its lines
pub record Tries (t : Try) (s : Search) (causes : List (List ℕ)) (old new : Evidence) (was now : Option (List Line)) (h : How) : Type 0 where
  pub entries : List Learned
  pub learnt : Learnt t s entries
  pub last : List Line
  pub ends : EndsAs t s causes old new last h
  pub told : Gets was now None (lines_of t entries last)

-- the last lines of a try that a fault broke off: none; the line of a clause that may be learned
abbrev pub LearnsLast : Try → Search → List Line → Type 0
LearnsLast t s last = (entry : Learned) × MayLearn (cleared s.new) t.scope (assumed_in t) entry × (s.now.used < s.now.limit)
    × (last ≡ learn_line entry ∷ [])

-- none, a core line, or a core line and the line that ends the try
abbrev pub IsPartOf : ℕ → List ℕ → List ℕ → List Line → Type 0
IsPartOf number kept dropped last =
    (last ≡ []) ⊎ ((last ≡ line.Core number kept dropped ∷ []) ⊎ (last ≡ core_lines number kept dropped))

-- some of the lines of a core
abbrev pub HasCoreLast : Try → List Line → Type 0
HasCoreLast t last = (kept : List ℕ) × (dropped : List ℕ) × IsCoreOf t kept dropped × IsPartOf t.cores kept dropped last

-- or the line of another end
abbrev pub BreaksAs : Try → Search → List Line → Type 0
BreaksAs t s last = (last ≡ []) ⊎ (LearnsLast t s last ⊎ (HasCoreLast t last
    ⊎ ((Refuted t s × (last ≡ line.Done how.Refuted None ∷ [])) ⊎ (Spent t s × (last ≡ line.Done how.Spent None ∷ [])))))

-- a try that a fault broke off, and the lines that it had written or begun to write
abbrev pub BreaksOff : Try → Search → List Line → Type 0
BreaksOff t s added =
    (added ≡ []) ⊎ ((entries : List Learned) × Learnt t s entries × (last : List Line) × BreaksAs t s last × (added ≡ lines_of t entries last))

-- the torn line of a search that a fault broke off, where the report told: none, or that of a clause that may be learned
abbrev pub BreaksSearch : solver.State → List ℕ → List ℕ → Budget → Option (List Line) → Option Line → Type 0
BreaksSearch state scope assume budget was torn = IfSome was (λ lines. (torn ≡ None)
    ⊎ ((entry : Learned) × MayLearn (cleared state) scope assume entry × (budget.used < budget.limit) × (torn ≡ Some (learn_line entry))))

-- how many cores there are after a try
abbrev pub cores_after : How → ℕ → ℕ
cores_after how.Model cores = cores + 1
cores_after how.Refuted cores = cores
cores_after how.Spent cores = cores
