-- One open answer by itself: its lines from the `ask` line on, what it starts from, and when its candidate is in place. The lines
-- stand newest first.
use Rattle.std.specs.Prelude.{◌≡◌, ℕ, ◌<◌, List, [], ◌∷◌, length, Contains, Bool, false}
use Rattle.cq_terms.specs.declared.facts.Repairs.{Repairs}
use Rattle.cq_terms.specs.Knowledge.{Knowledge}
use Rattle.cq_meaning.specs.Candidates.{Every, AreCauses}
use Rattle.cq_meaning.specs.Conflicts.{AreConsistent, FactsEntail}
use Rattle.cq_meaning.specs.Cores.{IsCore}
use Rattle.cq_meaning.specs.Repairs.{IsChosen}
use Rattle.clause_meaning.specs.Assignments.{SatisfiesAll}
use Rattle.priority_graph.specs.Split.{has}
use Rattle.report_text.specs.declared.line.Line.{Line}
use Rattle.report_text.specs.declared.line.Line.TheVariants as line
use Rattle.report_rules.specs.Inputs.{Input, AreFacts}
use Rattle.report_rules.specs.Order.{place_of, is_open, MayCome}
use Rattle.report_rules.specs.Told.{query_of, mode_of, budget_of, keep_of}
use Rattle.report_rules.specs.Tries.{asked, count_cores}
use Rattle.report_rules.specs.Live as live
use Rattle.report_rules.specs.Live.{Learned, IsLearned, count_learned}
use Rattle.report_rules.specs.TryRules.{TryIsRight, LearnIsRight, CoreIsRight, DoneIsRight}

-- the lines before the `ask` line of the open answer
abbrev pub start_of : List Line → List Line
start_of [] = []
start_of (line.Ask candidate tuple causes members ∷ before) = before
start_of (_ ∷ before) = start_of before

-- a line of a try obeys the rule of its kind, whatever its number is
abbrev pub ObeysInside : Input → List Line → Line → Type 0
ObeysInside input before (line.Try question assume) = TryIsRight input before question assume
ObeysInside input before (line.Learn number clause) = LearnIsRight input before (count_learned before) clause
ObeysInside input before (line.Core number kept dropped) = CoreIsRight input before (count_cores before) kept dropped
ObeysInside input before (line.Done how core) = DoneIsRight input before how core
ObeysInside input before _ = ⊥

-- the number of the line is the next
abbrev pub HasNextNumber : List Line → Line → Type 0
HasNextNumber before (line.Learn number clause) = number ≡ count_learned before
HasNextNumber before (line.Core number kept dropped) = number ≡ count_cores before
HasNextNumber before _ = Unit {0}

-- the line may come inside the open answer, and obeys its rule
pub record RightInside (input : Input) (before : List Line) (line : Line) : Type 0 where
  pub order : MayCome input.form input.kb.axioms (place_of before) line
  pub own : ObeysInside input before line

-- the lines of the open answer are right after those before them, from its `ask` line on; of this line, and of those before it,
-- nothing is asked
abbrev pub IsRightAnswer : Input → List Line → Type 0
IsRightAnswer input [] = ⊥
IsRightAnswer input (line.Ask candidate tuple causes members ∷ before) = Unit {0}
IsRightAnswer input (line ∷ before) = RightInside input before line × IsRightAnswer input before

-- the open candidate is in place: all facts entail its tuple, and its causes are exactly the causes of the tuple
pub record IsInPlace (input : Input) (before : List Line) : Type 0 where
  pub entailed : FactsEntail input.kb Every (query_of input before) (asked before).tuple
  pub causes_are : AreCauses input.kb (query_of input before) (asked before).tuple (asked before).causes

-- each of the lists has facts of the table that are consistent together
abbrev pub AreConsistentLists : Knowledge → List (List ℕ) → Type 0
AreConsistentLists kb causes = (cause : List ℕ) → Contains causes cause → AreFacts kb cause × AreConsistent kb (Contains cause)

-- the clauses are true of every chosen repair, whatever is read for the variables past the facts
abbrev pub HoldInChosen : Knowledge → Repairs → (List ℕ → Type 0) → Type 0
HoldInChosen kb mode S = (R v : ℕ → Bool) → IsChosen kb mode R → ((i : ℕ) → i < length kb.facts → v i ≡ R i) → SatisfiesAll v S

-- the learned clauses that live are true of every chosen repair
abbrev pub LearnedHold : Input → List Line → Type 0
LearnedHold input before = HoldInChosen input.kb (mode_of before) (IsLearned input.kb before)

-- each core line has a core
abbrev pub CoresHold : Input → List Line → Type 0
CoresHold input before = (n : ℕ) (kept dropped : List ℕ) → Contains before (line.Core n kept dropped)
    → IsCore input.kb (mode_of before) (has kept) (has dropped)

-- each core line has a number below the count of them
abbrev pub CoresAreNumbered : List Line → Type 0
CoresAreNumbered before = (n : ℕ) (kept dropped : List ℕ) → Contains before (line.Core n kept dropped) → n < count_cores before

-- no two core lines of one number differ
abbrev pub CoresAreUnique : List Line → Type 0
CoresAreUnique before = (n : ℕ) (kept dropped kept' dropped' : List ℕ) → Contains before (line.Core n kept dropped)
    → Contains before (line.Core n kept' dropped') → (kept ≡ kept') × (dropped ≡ dropped')

-- what an answer starts with: the options, the learned clauses that live, and how many clauses and cores there were
pub record Start : Type 0 where
  pub mode : Repairs
  pub budget : ℕ
  pub keep : ℕ
  pub learned : List Learned
  pub clauses : ℕ
  pub cores : ℕ

-- the clause is one of these, under some number
abbrev pub IsAmong : List Learned → List ℕ → Type 0
IsAmong entries clause = (number : ℕ) × Contains entries (record { number = number; clause = clause })

-- the lines tell this, where there are so many facts
pub record Tells (facts : ℕ) (start : Start) (before : List Line) : Type 0 where
  pub closed : is_open before ≡ false
  pub mode : mode_of before ≡ start.mode
  pub budget : budget_of before ≡ start.budget
  pub keep : keep_of before ≡ start.keep
  pub learned : live.learned facts before ≡ start.learned
  pub clauses : count_learned before ≡ start.clauses
  pub cores : count_cores before ≡ start.cores
  pub cores_numbered : CoresAreNumbered before
  pub cores_unique : CoresAreUnique before
