-- An open answer by the lines that it adds, whatever report tells them: which clauses its solver has, and what its lines show beside its evidence.
-- Lines stand newest first.
use Rattle.std.specs.Prelude.{◌≡◌, ◌<◌, ◌≤◌, ◌+◌, ◌↔◌, ◌⊎◌, ◌++◌, ℕ, List, [], ◌∷◌, All, Contains, true, false, length, map, reverse, slice_index_or}
use Rattle.std.specs.Prelude.{Option, Some, None, IfSome}
use Rattle.cq_terms.specs.Conflicts.{ConflictGraph}
use Rattle.cq_terms.specs.Knowledge.{Knowledge}
use Rattle.priority_graph.specs.Priority.{Priority, IsPriority, IsOver}
use Rattle.priority_graph.specs.Inputs.{IsPriorityOf}
use Rattle.repair_clauses.specs.BaseClauses.{AllFacts, IsBaseClause, present, absent}
use Rattle.cdcl_core.specs.State.{State}
use Rattle.proof_logs.specs.Logs.{Learned}
use Rattle.report_text.specs.declared.line.Line.{Line}
use Rattle.report_text.specs.declared.line.Line.TheVariants as line
use Rattle.report_text.specs.declared.line.Question.{Question}
use Rattle.report_text.specs.declared.line.Question.TheVariants as question
use Rattle.report_text.specs.declared.line.How.{How}
use Rattle.report_text.specs.declared.line.How.TheVariants as how
use Rattle.report_rules.specs.declared.place.Place.TheVariants.{InAnswer}
use Rattle.report_rules.specs.Inputs.{Input}
use Rattle.report_rules.specs.Clauses.{IsCauseClause}
use Rattle.report_rules.specs.Order.{place_of}
use Rattle.report_rules.specs.Tries.{Asked, asked, Tried, Ended, NamesCore, count_cores}
use Rattle.report_rules.specs.Live.{learned, learned_for, count_learned}
use Rattle.report_rules.specs.Evidence.{SomeCore, Meets}
use Rattle.report_rules.specs.TryRules.{ShowsAsked}
use Rattle.report_laws.specs.OpenAnswers.{RightInside, HoldInChosen, CoresAreNumbered, Start, IsAmong, Tells}
use Rattle.report_laws.specs.OverPriority.{FitsMode}
use Rattle.report_laws.specs.Scopes.{AreApart, KeepsScope}
use Rattle.report_laws.specs.Bounds.{AreReached}
use Rattle.report_laws.specs.DeskAnswers.{ask_line, IsAnsweredOver}
use Rattle.answer_evidence.specs.declared.evidence.Evidence.{Evidence}
use Rattle.answer_desk.specs.Desks.{DeskState, start_at, given_in, learned_in}
use Rattle.answer_evidence.specs.FreeCauses.{IsFreeCause}
use Rattle.answer_evidence.specs.Logging.{learn_line}
use Rattle.answer_evidence.specs.Sets.{SomeWithin, EachMeets}
use Rattle.answer_evidence.specs.Shown.{is_undecided, verdict_in}

-- ---- what stays

-- what stays while an answer is open: the conflicts and the priority, what it starts with, the candidate that it asks with its members, and the
-- facts of its components
pub record Frame : Type 0 where
  pub conflicts : ConflictGraph
  pub better : Priority
  pub start : Start
  pub asked : Asked
  pub members : List ℕ
  pub facts : List ℕ

-- the frame of a desk's answer to a candidate
abbrev pub frame_of : DeskState → ℕ → List ℕ → List (List ℕ) → List ℕ → List ℕ → Frame
frame_of desk number tuple causes members facts = record {
  conflicts = desk.conflicts;
  better = desk.better;
  start = start_at desk;
  asked = record { candidate = number; tuple = tuple; causes = causes };
  members = members;
  facts = facts;
}

-- the variable of the candidate
abbrev pub own_selector : Frame → ℕ
own_selector w = w.better.facts + w.asked.candidate

-- the facts of its components, and the variable
abbrev pub own_scope : Frame → List ℕ
own_scope w = w.facts ++ own_selector w ∷ []

-- the lines of the answer behind those before it
abbrev pub lines_on : Frame → List Line → List Line → List Line
lines_on w more before = more ++ ask_line w.asked w.members ∷ before

-- the lines tell what the answer starts with
abbrev pub IsToldBefore : Frame → List Line → Type 0
IsToldBefore w before = Tells w.better.facts w.start before

-- a knowledge base with the priority
abbrev pub IsBaseOf : Frame → Knowledge → Type 0
IsBaseOf w kb = IsPriorityOf kb w.start.mode w.better

-- the priority is over the conflicts and fits the mode, what the answer starts with is true and apart, and its causes are free
pub record IsFrame (w : Frame) : Type 0 where
  pub priority : IsPriority w.better
  pub over : IsOver w.better w.conflicts
  pub fits : FitsMode w.better w.start.mode
  pub count : length w.start.learned ≤ w.start.clauses
  pub hold : (kb : Knowledge) → IsBaseOf w kb → HoldInChosen kb w.start.mode (IsAmong w.start.learned)
  pub apart : (kb : Knowledge) → IsBaseOf w kb → AreApart kb (IsAmong w.start.learned)
  pub causes_are : All (IsFreeCause w.better) w.asked.causes
  pub reached : AreReached w.conflicts w.asked.causes w.facts

-- ---- right lines, and the solver beside them

-- the line has the next number, behind these lines of the answer
abbrev pub HasNumber : Start → List Line → Line → Type 0
HasNumber start more (line.Learn number clause) = number ≡ start.clauses + count_learned more
HasNumber start more (line.Core number kept dropped) = number ≡ start.cores + count_cores more
HasNumber start more _ = Unit {0}

-- so it is for each line of the answer
abbrev pub AreNumbered : Start → List Line → Type 0
AreNumbered start [] = Unit {0}
AreNumbered start (line ∷ more) = HasNumber start more line × AreNumbered start more

-- the given clauses are the base clauses and those of the causes; the learned ones are those of the start and of the `learn` lines
pub record Follows (w : Frame) (more : List Line) (state : State) : Type 0 where
  pub frame : IsFrame w
  pub given : (clause : List ℕ) → Contains (given_in state.live) clause
      ↔ (IsBaseClause w.better (AllFacts w.better) clause ⊎ IsCauseClause (own_selector w) w.asked.causes clause)
  pub learned_are : learned_in state.live ≡ w.start.learned ++ learned w.better.facts more
  pub next : state.next ≡ w.start.clauses + count_learned more
  pub answered : IsAnsweredOver w.better w.start w.asked w.members more
  pub numbered : AreNumbered w.start more
  pub keeps : (kb : Knowledge) → IsBaseOf w kb → (before : List Line) → Tells (length kb.facts) w.start before
      → KeepsScope kb (lines_on w more before) w.facts

-- ---- what the lines show

-- the cores of the answer, and the evidence
pub record ShowsCores (causes : List (List ℕ)) (e : Evidence) (lines : List Line) : Type 0 where
  pub keeps : (e.keeps ≡ true) ↔ SomeCore lines [] (λ kept dropped. SomeWithin causes kept)
  pub drops_all : (e.drops_all ≡ true) ↔ SomeCore lines [] (λ kept dropped. EachMeets causes dropped)
  pub all : length e.cut.items ≡ length causes
  pub cut : (i : ℕ) → i < length causes
      → (slice_index_or e.cut.items i false ≡ true) ↔ SomeCore lines [] (λ kept dropped. Meets (slice_index_or causes i []) dropped)

-- the brave try of the cause ended refuted or spent
abbrev pub HasEnded : List Line → List ℕ → Type 0
HasEnded lines cause = Ended question.Brave (map present cause) how.Refuted lines ⊎ Ended question.Brave (map present cause) how.Spent lines

-- the tries that ended without a core, and the evidence
pub record ShowsTries (w : Frame) (e : Evidence) (lines : List Line) : Type 0 where
  pub refuted : (i : ℕ) → Contains e.refuted i ↔ Ended question.Iar (absent i ∷ []) how.Refuted lines
  pub spent : (i : ℕ) → Contains e.spent i ↔ Ended question.Iar (absent i ∷ []) how.Spent lines
  pub sure : (e.sure ≡ true) ↔ SomeWithin w.asked.causes e.refuted
  pub ar_refuted : (e.ar_refuted ≡ true) ↔ Ended question.Ar (present (own_selector w) ∷ []) how.Refuted lines
  pub brave_spent : (e.brave_spent ≡ true)
      ↔ ((cause : List ℕ) × Contains w.asked.causes cause × Ended question.Brave (map present cause) how.Spent lines)
  pub brave_over : e.brave_over ≡ true → (cause : List ℕ) → Contains w.asked.causes cause → HasEnded lines cause

-- each try of the answer has ended, in one way; a core shows what was asked where it ended with one
pub record TriesHaveEnded (a : Asked) (lines : List Line) : Type 0 where
  pub tried : (q : Question) (assume : List ℕ) (h : How) → Ended q assume h lines → Tried q assume lines
  pub ended : (q : Question) (assume : List ℕ) → Tried q assume lines → (h : How) × Ended q assume h lines
  pub once : (q : Question) (assume : List ℕ) (h h' : How) → Ended q assume h lines → Ended q assume h' lines → h ≡ h'
  pub shown : (q : Question) (assume : List ℕ) → Ended q assume how.Model lines → SomeCore lines [] (ShowsAsked a q assume)

-- ---- how far an answer is

-- at brave, of which some causes are done and so much of the budget is used; at IAR; or at its end
pub data Stage : Type 0 where
  AtBrave : List (List ℕ) → ℕ → Stage
  AtIar : ℕ → Stage
  AtEnd : Stage

-- the brave tries of these causes ended refuted or spent, and there was no other try
pub record IsAtBrave (lines : List Line) (done : List (List ℕ)) (used : ℕ) : Type 0 where
  pub used_is : learned_for question.Brave lines ≡ used
  pub none_used : (learned_for question.Iar lines ≡ 0) × (learned_for question.Ar lines ≡ 0)
  pub only : (q : Question) (assume : List ℕ) → Tried q assume lines
      → (q ≡ question.Brave) × (cause : List ℕ) × Contains done cause × (assume ≡ map present cause)
  pub each : (cause : List ℕ) → Contains done cause → HasEnded lines cause
  pub none_named : (n : ℕ) → ¬ NamesCore lines n

-- each cause had its brave try, or one ended with a core
abbrev pub BraveIsOver : Frame → Evidence → List Line → Type 0
BraveIsOver w e lines = (e.brave_over ≡ true)
    ⊎ ((cause : List ℕ) × Contains w.asked.causes cause × Ended question.Brave (map present cause) how.Model lines)

-- IAR is settled, or each cause has a fact that some core drops or whose try was spent
abbrev pub IarIsOver : List (List ℕ) → Evidence → Type 0
IarIsOver causes e = (is_undecided (verdict_in e question.Iar) ≡ false)
    ⊎ ((i : ℕ) → i < length causes → (slice_index_or e.cut.items i false ≡ true)
    ⊎ ((f : ℕ) × Contains (slice_index_or causes i []) f × Contains e.spent f))

-- brave is over, and there was no AR try
pub record IsAtIar (w : Frame) (e : Evidence) (lines : List Line) (used : ℕ) : Type 0 where
  pub used_is : learned_for question.Iar lines ≡ used
  pub none_used : learned_for question.Ar lines ≡ 0
  pub no_ar : (assume : List ℕ) → ¬ Tried question.Ar assume lines
  pub brave : BraveIsOver w e lines

-- all three are over
pub record IsAtEnd (w : Frame) (e : Evidence) (lines : List Line) : Type 0 where
  pub brave : BraveIsOver w e lines
  pub iar : IarIsOver w.asked.causes e
  pub ar : (is_undecided (verdict_in e question.Ar) ≡ false) ⊎ Ended question.Ar (present (own_selector w) ∷ []) how.Spent lines

abbrev pub Stands : Frame → Evidence → List Line → Stage → Type 0
Stands w e lines (AtBrave done used) = IsAtBrave lines done used
Stands w e lines (AtIar used) = IsAtIar w e lines used
Stands w e lines AtEnd = IsAtEnd w e lines

-- ---- an open answer

-- between two tries: the cores are numbered on from the start, each has a `done` line, and the evidence is what the lines show
pub record Shows (w : Frame) (e : Evidence) (stage : Stage) (lines : List Line) : Type 0 where
  pub between : place_of lines ≡ InAnswer
  pub asks : asked lines ≡ w.asked
  pub cores_numbered : CoresAreNumbered lines
  pub named : (n : ℕ) → NamesCore lines n ↔ ((w.start.cores ≤ n) × (n < count_cores lines))
  pub named_is : (n : ℕ) → NamesCore lines n → (kept : List ℕ) × (dropped : List ℕ) × Contains lines (line.Core n kept dropped)
  pub over : TriesHaveEnded w.asked lines
  pub cores : ShowsCores w.asked.causes e lines
  pub tries : ShowsTries w e lines
  pub stands : Stands w e lines stage

-- what an open answer keeps between its tries
pub record FollowsOpen (w : Frame) (more : List Line) (state : State) (cores : ℕ) (stage : Stage) (e : Evidence) : Type 0 where
  pub follows : Follows w more state
  pub cores_are : cores ≡ w.start.cores + count_cores more
  pub shows : (before : List Line) → IsToldBefore w before → Shows w e stage (lines_on w more before)

-- the `learn` lines of these clauses
abbrev pub learn_lines : List Learned → List Line
learn_lines entries = reverse (map learn_line entries)

-- a `try` line and the `learn` lines behind it
abbrev pub try_lines : Question → List ℕ → List Learned → List Line → List Line
try_lines q assume entries more = learn_lines entries ++ line.Try q assume ∷ more

-- what it keeps inside a try, before which it had the lines `more` and so much of the budget was used
pub record FollowsTry (w : Frame) (more : List Line) (q : Question) (assume : List ℕ) (used : ℕ) (entries : List Learned) (state : State)
    (cores : ℕ) (stage : Stage) (e : Evidence) : Type 0 where
  pub follows : Follows w (try_lines q assume entries more) state
  pub cores_are : cores ≡ w.start.cores + count_cores more
  pub shows : (before : List Line) → IsToldBefore w before → Shows w e stage (lines_on w more before)
  pub new : (before : List Line) → IsToldBefore w before → ¬ Tried q assume (lines_on w more before)
  pub used_is : (before : List Line) → IsToldBefore w before → learned_for q (lines_on w more before) ≡ used

-- the two lines by which a core ends a try
abbrev pub core_lines : ℕ → List ℕ → List ℕ → List Line → List Line
core_lines number kept dropped more = line.Done how.Model (Some number) ∷ line.Core number kept dropped ∷ more

-- ---- a report of the lines

-- where the lines were told they are told, with these behind them
abbrev pub AddsLines : Option (List Line) → Option (List Line) → List Line → Type 0
AddsLines None now added = Unit {0}
AddsLines (Some lines) now added = now ≡ Some (lines ++ reverse added)

-- the line is the next one, and right inside the answer, behind its lines
pub record IsNextInside (w : Frame) (more : List Line) (l : Line) : Type 0 where
  pub right : (input : Input) (before : List Line) → IsBaseOf w input.kb → Tells (length input.kb.facts) w.start before
      → RightInside input (lines_on w more before) l
  pub number : HasNumber w.start more l

-- after a fault the lines so far are right, and so is the torn one
pub record Stops (w : Frame) (more : List Line) (torn : Option Line) : Type 0 where
  pub answered : IsAnsweredOver w.better w.start w.asked w.members more
  pub numbered : AreNumbered w.start more
  pub torn_right : IfSome torn (IsNextInside w more)

-- so it is where the report tells, after further lines
abbrev pub StopsAfter : Frame → List Line → Option (List Line) → Option (List Line) → Option Line → Type 0
StopsAfter w more was now torn = IfSome was (λ lines. (added : List Line) × Stops w (added ++ more) torn × (now ≡ Some (lines ++ reverse added)))

-- the answer is open behind further lines, which the report got where it tells
abbrev pub GoesOn : Frame → List Line → State → ℕ → Stage → Evidence → Option (List Line) → Option (List Line) → Type 0
GoesOn w more state cores stage e was now = (added : List Line) × FollowsOpen w (added ++ more) state cores stage e × AddsLines was now added

-- the frame is over these conflicts and this priority, with these causes, this selector, scope and budget
pub record IsFrameFor (w : Frame) (g : ConflictGraph) (p : Priority) (causes : List (List ℕ)) (selector : ℕ) (scope : List ℕ) (budget : ℕ) : Type 0 where
  pub conflicts_are : w.conflicts ≡ g
  pub better_is : w.better ≡ p
  pub causes_are : w.asked.causes ≡ causes
  pub selector_is : own_selector w ≡ selector
  pub scope_is : own_scope w ≡ scope
  pub budget_is : w.start.budget ≡ budget

-- after the brave try of a cause: brave is over where it ended with a core, and else the cause is done
abbrev pub CauseGoesOn : Frame → List Line → State → ℕ → List (List ℕ) → List ℕ → ℕ → Evidence → Option (List Line) → Option (List Line) → How → Type 0
CauseGoesOn w more state cores done cause used e was now how.Model = GoesOn w more state cores (AtIar 0) e was now
CauseGoesOn w more state cores done cause used e was now how.Refuted = GoesOn w more state cores (AtBrave (done ++ cause ∷ []) used) e was now
CauseGoesOn w more state cores done cause used e was now how.Spent = GoesOn w more state cores (AtBrave (done ++ cause ∷ []) used) e was now

-- what the evidence takes of how a brave try ended, and of how the AR try did
abbrev pub SeesBrave : How → Evidence → Evidence → Type 0
SeesBrave how.Model old new = new ≡ old
SeesBrave how.Refuted old new = new ≡ old
SeesBrave how.Spent old new = new ≡ record old { brave_spent = true }

abbrev pub SeesAr : How → Evidence → Evidence → Type 0
SeesAr how.Model old new = new ≡ old
SeesAr how.Refuted old new = new ≡ record old { ar_refuted = true }
SeesAr how.Spent old new = new ≡ old
