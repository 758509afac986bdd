-- What the counts of a classification are: those of three verdicts on each candidate.
use Rattle.std.specs.Prelude.{◌≤◌, ◌+◌, ◌^◌, ◌==◌, ◌↔◌, ℕ, suc, List, length, All, Bool, IsTrue, Option, if◌then◌else◌}
use Rattle.cq_io.specs.Failing.{Failing}
use Rattle.cq_terms.specs.Knowledge.{Knowledge}
use Rattle.cq_terms.specs.Query.{Query}
use Rattle.cq_meaning.specs.Candidates.{AreCandidates, AreCauses}
use Rattle.preparation.specs.Prepared.{IsPrepared}
use Rattle.preparation.specs.declared.preparing.Prepared.{Prepared}
use Rattle.report_text.specs.declared.line.Question.{Question}
use Rattle.report_rules.specs.ConflictLists.{AreConflictFacts}
use Rattle.report_laws.specs.Readings.{Holds, IsDecided, IsTrueVerdict}
use Rattle.report_laws.specs.Summaries.{Said, count_passing, said_to, tuples_said}
use Rattle.answer_desk.specs.declared.plan.Plan.{Plan}
use Rattle.classifier.specs.WholeReports.{CountsHolding, IsSummaryOf, IsSummaryOver, yes_count}
use Rattle.classifier.specs.declared.summary.Summary.{Summary}
use Rattle.cqapri_words.specs.Words.{FileNames, Settings}
use Rattle.cqapri_words.specs.declared.status.Status.{Status}
use Rattle.cqapri_words.specs.declared.status.Status.TheVariants as status
use Rattle.input_files.specs.Fetching.{Held}
use Rattle.cqapri_cli.specs.Limits.{IsWithinLimits}
use Rattle.cqapri_cli.specs.Reading.{SaySome}

-- each yes and each no on the tuple is true, and no question is left open where the budget is at least the tuple's bound: 3 to the power
-- of one more than the number of facts in conflicts of the components of its causes
pub record IsRightlySaid (kb : Knowledge) (q : Query) (settings : Settings) (said : Said) : Type 0 where
  pub truth : (question : Question) → IsTrueVerdict (Holds kb settings.repairs q said.tuple question) (said_to question said)
  pub decided : (causes : List (List ℕ)) (facts : List ℕ) → AreCauses kb q said.tuple causes → AreConflictFacts kb causes facts
      → 3 ^ suc (length facts) ≤ settings.budget → (question : Question) → IsDecided (said_to question said)

-- the counts are those of right verdicts on the tuples that the whole table entails, each once. For each question at most as many of
-- them have yes as there are tuples for which it holds, and these are at most the ones with yes and the ones with a question left open
pub record AreCounts (kb : Knowledge) (q : Query) (settings : Settings) (counts : Summary) : Type 0 where
  pub said : List Said
  pub candidates : AreCandidates kb q (tuples_said said)
  pub right : All (IsRightlySaid kb q settings) said
  pub counted : IsSummaryOf said counts
  pub holding : (question : Question) (test : List ℕ → Bool)
      → ((tuple : List ℕ) → IsTrue (test tuple) ↔ Holds kb settings.repairs q tuple question)
      → (yes_count question counts ≤ count_passing test (tuples_said said))
      × (count_passing test (tuples_said said) ≤ yes_count question counts + counts.undecided)

-- the files are fetched and say something that no limit refuses, and these are the counts of the verdicts on it
abbrev pub CountsAnswers : Option Held → Option Failing → FileNames → Settings → Summary → Type 0
CountsAnswers holds failing names settings counts =
    SaySome holds failing names (λ kb q vocab. IsWithinLimits kb q settings × AreCounts kb q settings counts)

-- the plan of the settings
abbrev pub plan_with : Settings → Plan
plan_with settings = record { budget = settings.budget; keep = settings.keep; repairs = settings.repairs }

-- the counts of a classification of what is prepared are those of right verdicts
abbrev pub SummaryIsRight : Type 0
SummaryIsRight = (kb : Knowledge) (q : Query) (settings : Settings) (p : Prepared) (counts : Summary) → IsPrepared kb q settings.repairs p
    → IsSummaryOver p.found.conflicts p.better (plan_with settings) p.candidates.items counts
    → CountsHolding kb settings.repairs q p.candidates.items counts → AreCounts kb q settings counts

-- the status after a whole report with so many answers that leave a question open
abbrev pub status_after : ℕ → Status
status_after undecided = if undecided == 0 then status.Done else status.Open
