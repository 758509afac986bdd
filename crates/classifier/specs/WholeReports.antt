-- What a classification answers: a report whose lines are right, and counts of true verdicts.
use Rattle.std.specs.Prelude.{◌≡◌, ◌++◌, ◌+◌, ◌^◌, ◌<◌, ◌≤◌, ◌↔◌, ℕ, suc, List, [], ◌∷◌, map, filter, reverse, length}
use Rattle.std.specs.Prelude.{Bool, true, false, IsTrue, All, Contains, Option, Some}
use Rattle.std.specs.Prelude.{Result, Ok, Err, if◌then◌else◌}
use Rattle.std.specs.List.{AllZip}
use Rattle.cq_terms.specs.declared.facts.Repairs.{Repairs}
use Rattle.cq_terms.specs.declared.facts.Repairs.TheVariants as mode
use Rattle.cq_terms.specs.Conflicts.{ConflictGraph}
use Rattle.cq_terms.specs.Knowledge.{Knowledge}
use Rattle.cq_terms.specs.Query.{Query}
use Rattle.cq_meaning.specs.Candidates.{Every, AreCauses}
use Rattle.cq_meaning.specs.Conflicts.{FactsEntail}
use Rattle.cq_steps.specs.declared.closure.Member.{Member}
use Rattle.cq_steps.specs.Closing.{queries_of}
use Rattle.priority_graph.specs.Priority.{Priority}
use Rattle.priority_graph.specs.Inputs.{IsPriorityOf}
use Rattle.cause_finder.specs.declared.candidate.Candidate.{Candidate}
use Rattle.cause_finder.specs.Causes.{AreAnswers}
use Rattle.report_text.specs.declared.line.Line.{Line}
use Rattle.report_text.specs.declared.line.Line.TheVariants as line
use Rattle.report_text.specs.declared.line.Question.{Question}
use Rattle.report_text.specs.declared.line.Question.TheVariants as question
use Rattle.report_text.specs.declared.line.Origin.TheVariants as origin
use Rattle.report_rules.specs.Inputs.{Input, report_on}
use Rattle.report_rules.specs.Told.{mode_of, budget_of, keep_of, block_of, count_ends, answered, count_answers}
use Rattle.report_rules.specs.Rules.{AskIsRight, is_yes}
use Rattle.report_rules.specs.Accepted.{AreRight, Accepts}
use Rattle.report_laws.specs.Readings.{Holds, IsDecided}
use Rattle.report_laws.specs.Bounds.{AreBoundFacts, IsAtLeastBound}
use Rattle.report_laws.specs.Summaries.{Said, yes_to, any_open, count_said, count_passing}
use Rattle.answer_desk.specs.declared.plan.ClassifyFault.{ClassifyFault}
use Rattle.answer_desk.specs.declared.plan.Plan.{Plan}
use Rattle.classifier.specs.declared.summary.Summary.{Summary}
use Rattle.answer_desk.specs.declared.plan.Verdicts.{Verdicts}
use Rattle.answer_desk.specs.Answering.{AreTrueVerdicts, AreOneAnswer, WritesRight, has_undecided}
use Rattle.answer_desk.specs.Desks.{DeskState, Agrees, total}
use Rattle.answer_evidence.specs.FreeCauses.{IsFreeCause}
use Rattle.classifier.specs.WholeWriting.{IsRightSoFar}

-- ---- counts

-- no answer is counted
abbrev pub no_summary : Summary
no_summary = record { answers = 0; brave = 0; ar = 0; iar = 0; undecided = 0 }

-- one where it is so, and else nothing
abbrev pub one_if : Bool → ℕ
one_if is_so = if is_so then 1 else 0

-- one more answer
abbrev pub with_verdicts : Summary → Verdicts → Summary
with_verdicts s v = record {
  answers = s.answers + 1;
  brave = s.brave + one_if (is_yes v.brave);
  ar = s.ar + one_if (is_yes v.ar);
  iar = s.iar + one_if (is_yes v.iar);
  undecided = s.undecided + one_if (has_undecided v);
}

-- no count is above that of the answers
pub record AreAtMostAnswers (s : Summary) : Type 0 where
  pub brave : s.brave ≤ s.answers
  pub ar : s.ar ≤ s.answers
  pub iar : s.iar ≤ s.answers
  pub undecided : s.undecided ≤ s.answers

-- how many answers have yes to the question
abbrev pub yes_count : Question → Summary → ℕ
yes_count question.Brave s = s.brave
yes_count question.Ar s = s.ar
yes_count question.Iar s = s.iar

-- the counts are those of these answers
pub record IsSummaryOf (said : List Said) (s : Summary) : Type 0 where
  pub answers : s.answers ≡ length said
  pub yes : (q : Question) → yes_count q s ≡ count_said (yes_to q) said
  pub undecided : s.undecided ≡ count_said any_open said

-- the counts are those of the answers to the query that the lines tell
pub record IsSummaryIn (before : List Line) (s : Summary) : Type 0 where
  pub answers : s.answers ≡ count_answers (λ b a i. true) before
  pub yes : (q : Question) → yes_count q s ≡ count_answers (yes_to q) before
  pub undecided : s.undecided ≡ count_answers any_open before

-- ---- what is said of the candidates

-- the verdicts of an answer
abbrev pub verdicts_of : Said → Verdicts
verdicts_of s = record { brave = s.brave; ar = s.ar; iar = s.iar }

-- an answer with its tuple
abbrev pub said_of : List ℕ → Verdicts → Said
said_of tuple v = record { tuple = tuple; brave = v.brave; ar = v.ar; iar = v.iar }

-- what is said of the candidate is true for each input with this priority for which it is in place; over all repairs brave and IAR are
-- decided, and AR where there is at most one cause; and all are decided where the budget is at least the bound
pub record IsSaidOf (g : ConflictGraph) (p : Priority) (plan : Plan) (c : Candidate) (s : Said) : Type 0 where
  pub tuple : s.tuple ≡ c.tuple
  pub truth : (kb : Knowledge) (q : Query) → IsPriorityOf kb plan.repairs p → FactsEntail kb Every q c.tuple → AreCauses kb q c.tuple c.causes
      → AreTrueVerdicts kb plan.repairs q c.tuple (verdicts_of s)
  pub over_all : plan.repairs ≡ mode.All → IsDecided s.brave × IsDecided s.iar
      × (((a b : List ℕ) → Contains c.causes a → Contains c.causes b → a ≡ b) → IsDecided s.ar)
  pub by_budget : IsAtLeastBound g c.causes plan.budget → IsDecided s.brave × IsDecided s.ar × IsDecided s.iar

-- the counts are those of three verdicts on each candidate, of which this is so
abbrev pub IsSummaryOver : ConflictGraph → Priority → Plan → List Candidate → Summary → Type 0
IsSummaryOver g p plan candidates s = (said : List Said) × AllZip (IsSaidOf g p plan) candidates said × IsSummaryOf said s

-- the tuples of the candidates
abbrev pub tuples_of : List Candidate → List (List ℕ)
tuples_of candidates = map (λ c. c.tuple) candidates

-- each count of yes is at most the number of candidates for which the question holds, and this at most the count and those left open
abbrev pub CountsHolding : Knowledge → Repairs → Query → List Candidate → Summary → Type 0
CountsHolding kb repairs query candidates s = (q : Question) (test : List ℕ → Bool)
    → ((tuple : List ℕ) → IsTrue (test tuple) ↔ Holds kb repairs query tuple q)
    → (yes_count q s ≤ count_passing test (tuples_of candidates)) × (count_passing test (tuples_of candidates) ≤ yes_count q s + s.undecided)

-- at most the candidates whose bound is above the budget are left open
abbrev pub OpenAboveBudget : ConflictGraph → ℕ → List Candidate → Summary → Type 0
OpenAboveBudget g budget candidates s = (test : Candidate → Bool)
    → ((c : Candidate) (facts : List ℕ) → Contains candidates c → AreBoundFacts g c.causes facts → budget < 3 ^ suc (length facts) → IsTrue (test c))
    → s.undecided ≤ length (filter test candidates)

-- at most the candidates with two causes or more are left open
abbrev pub OpenOfManyCauses : List Candidate → Summary → Type 0
OpenOfManyCauses candidates s = (test : Candidate → Bool)
    → ((c : Candidate) → Contains candidates c → 2 ≤ length c.causes → IsTrue (test c))
    → s.undecided ≤ length (filter test candidates)

-- ---- the lines of the answers

-- a desk that has answered nothing
abbrev pub first_desk : ConflictGraph → Priority → Plan → ℕ → DeskState
first_desk g p plan selectors = record {
  conflicts = g;
  better = p;
  plan = plan;
  selectors = selectors;
  learned = [];
  answers = 0;
  clauses = 0;
  cores = 0;
  failed = false;
}

-- what may be asked of a desk of each candidate
pub record MayBeAnswered (p : Priority) (texts : List (List ℕ)) (c : Candidate) : Type 0 where
  pub few : total c.causes < 2 ^ 31
  pub causes_are : All (IsFreeCause p) c.causes
  pub named : All (λ i. i < length texts) c.tuple

-- what may be asked of a desk that has answered nothing
pub record MayAnswerAll (desk : DeskState) (texts : List (List ℕ)) (candidates : List Candidate) : Type 0 where
  pub none_yet : desk.answers ≡ 0
  pub enough : length candidates ≤ desk.selectors
  pub few : desk.selectors < 2 ^ 31
  pub each : All (MayBeAnswered desk.better texts) candidates

-- the right lines so far tell the answers to these tuples, of the query whose closure has these members, and agree with the desk
pub record AnswersSoFar (input : Input) (desk : DeskState) (members : List Member) (tuples : List (List ℕ)) (s : Summary) (before : List Line)
    : Type 0 where
  pub right : AreRight input before
  pub agrees : Agrees desk input before
  pub block : block_of origin.Query before ≡ queries_of members
  pub first : count_ends before ≡ 0
  pub tuples_are : answered before ≡ tuples
  pub counted : IsSummaryIn before s

-- the lines of one answer, with some texts, after which they agree with the desk
abbrev pub AnswersOne : Input → DeskState → ℕ → Candidate → List Line → List Line → Result Verdicts ClassifyFault → Type 0
AnswersOne input desk number c before more (Ok v) = Agrees desk input (more ++ before)
    × ((names : List (List ℕ)) × AreOneAnswer number c.tuple c.causes c.members names v more)
AnswersOne input desk number c before more (Err f) = Unit {0}

-- where the report told its lines, they agreed with the desk and the candidate is next, the lines that were written are right; and after
-- an answer they are those of the answer
abbrev pub AnswersNext : DeskState → DeskState → ℕ → Candidate → List (List ℕ) → Option (List Line) → Option (List Line) → Option Line
    → Result Verdicts ClassifyFault → Type 0
AnswersNext old new number c texts was now torn result = (input : Input) (before : List Line) → was ≡ Some (reverse before)
    → Agrees old input before → input.names ≡ texts → AskIsRight input before number c.tuple c.causes c.members
    → (more : List Line) × WritesRight input before now torn more × AnswersOne input new number c before more result

-- after Ok the lines tell the answers to all candidates; after a fault they are right
abbrev pub TellsAllAnswers : Input → DeskState → List Member → List Candidate → Option (List Line) → Option Line → Result Summary ClassifyFault → Type 0
TellsAllAnswers input desk members candidates now torn (Ok s) = (after : List Line) × (now ≡ Some (reverse after))
    × AnswersSoFar input desk members (tuples_of candidates) s after
TellsAllAnswers input desk members candidates now torn (Err f) = IsRightSoFar input now torn

-- so it is wherever the report told the lines before the first answer, for the query whose candidates these are
abbrev pub AnswersAll : DeskState → DeskState → List Candidate → List (List ℕ) → Option (List Line) → Option (List Line) → Option Line
    → Result Summary ClassifyFault → Type 0
AnswersAll old new candidates texts was now torn result = (kb : Knowledge) (q : Query) (members : List Member) (before : List Line)
    → was ≡ Some (reverse before) → AreAnswers kb.axioms kb.facts q members candidates
    → AnswersSoFar (report_on kb texts q) old members [] no_summary before
    → TellsAllAnswers (report_on kb texts q) new members candidates now torn result

-- ---- the whole report

-- the last line, with the counts
abbrev pub end_line : Summary → Line
end_line s = line.End s.answers s.brave s.ar s.iar s.undecided

-- the report tells its lines, which are accepted; the head has the options of the plan, and the last line the counts
pub record TellsReport (kb : Knowledge) (texts : List (List ℕ)) (q : Query) (plan : Plan) (told : Option (List Line)) (s : Summary) : Type 0 where
  pub before : List Line
  pub lines : told ≡ Some (reverse before ++ end_line s ∷ [])
  pub accepted : Accepts kb texts q (reverse before ++ end_line s ∷ [])
  pub repairs : mode_of before ≡ plan.repairs
  pub budget : budget_of before ≡ plan.budget
  pub keep : keep_of before ≡ plan.keep

-- after Ok the whole report, and after a fault right lines
abbrev pub ReportsWhole : Knowledge → List (List ℕ) → Query → Plan → Option (List Line) → Option Line → Result Summary ClassifyFault → Type 0
ReportsWhole kb texts q plan told torn (Ok s) = TellsReport kb texts q plan told s
ReportsWhole kb texts q plan told torn (Err f) = IsRightSoFar (report_on kb texts q) told torn

-- so it is where the report told the lines before the first answer, for the query whose candidates these are
abbrev pub EndsReport : DeskState → List Candidate → List (List ℕ) → Option (List Line) → Option (List Line) → Option Line → Result Summary ClassifyFault
    → Type 0
EndsReport desk candidates texts was now torn result = (kb : Knowledge) (q : Query) (members : List Member) (before : List Line)
    → was ≡ Some (reverse before) → AreAnswers kb.axioms kb.facts q members candidates
    → AnswersSoFar (report_on kb texts q) desk members [] no_summary before
    → ReportsWhole kb texts q desk.plan now torn result
