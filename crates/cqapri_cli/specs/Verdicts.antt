-- What `confirm` says of a report, and the text that it prints.
use Rattle.std.specs.Prelude.{◌≡◌, ◌⊎◌, ℕ, suc, List, [], ◌∷◌, ◌++◌, Option, codes, decimal}
use Rattle.cq_io.specs.Failing.{Failing}
use Rattle.cq_io.specs.Writing.{appended}
use Rattle.cq_terms.specs.Knowledge.{Knowledge}
use Rattle.cq_terms.specs.Query.{Query}
use Rattle.cq_terms.specs.declared.names.Vocab.{Vocab}
use Rattle.report_rules.specs.RuleWords.{rule_word}
use Rattle.refutation_confirmer.specs.Saying.{Says, TellsRoundly}
use Rattle.refutation_confirmer.specs.declared.confirmed.Confirmed.{Confirmed}
use Rattle.refutation_confirmer.specs.declared.confirmed.Confirmed.TheVariants.{Yes, No}
use Rattle.cqapri_words.specs.Pieces.{AppendsFirst}
use Rattle.cqapri_words.specs.Words.{FileNames}
use Rattle.cqapri_words.specs.declared.files.File.TheVariants as file
use Rattle.cqapri_words.specs.declared.refusal.Refusal.{Refusal}
use Rattle.cqapri_words.specs.declared.refusal.Refusal.TheVariants as refusal
use Rattle.cqapri_words.specs.declared.status.Status.{Status}
use Rattle.cqapri_words.specs.declared.status.Status.TheVariants as status
use Rattle.input_files.specs.Ends.{place_of}
use Rattle.input_files.specs.Fetching.{Held, Succeed}
use Rattle.input_files.specs.Meaning.{FilesSay, IsFetchedReport}
use Rattle.cqapri_cli.specs.Limits.{named_cycle}

-- the text of a verdict on a report, one line
abbrev pub verdict_text : Confirmed → List ℕ
verdict_text (Yes answers) = codes "accepted " ++ (decimal answers ++ 10 ∷ [])
verdict_text (No line rule) = codes "rejected line " ++ (decimal line ++ (codes ": " ++ (rule_word rule ++ 10 ∷ [])))

-- the status of a verdict on a report
abbrev pub verdict_status : Confirmed → Status
verdict_status (Yes answers) = status.Done
verdict_status (No line rule) = status.Open

-- the fetches of the files and of the report don't fail, where it is told which do
abbrev pub AreAllFetched : Option Failing → FileNames → Type 0
AreAllFetched failing names = Succeed (suc (place_of names file.Report)) failing

-- the named files and the named report, by what the files say
pub record IsToConfirm (holds : Option Held) (failing : Option Failing) (names : FileNames) (name : List ℕ) (kb : Knowledge) (q : Query) (vocab : Vocab)
    (report : List ℕ) : Type 0 where
  pub say : FilesSay holds names kb q vocab
  pub fetched : IsFetchedReport holds name report
  pub all_fetched : AreAllFetched failing names

-- the verdict is right for what the named files say and the named report: each comes exactly where it is right
pub record Judges (holds : Option Held) (failing : Option Failing) (names : FileNames) (name : List ℕ) (verdict : Confirmed) : Type 0 where
  pub kb : Knowledge
  pub q : Query
  pub vocab : Vocab
  pub report : List ℕ
  pub read : IsToConfirm holds failing names name kb q vocab report
  pub right : Says kb vocab.inds q report verdict

-- the line of a right verdict was written, and the status is its
pub record WritesVerdict (holds : Option Held) (failing : Option Failing) (names : FileNames) (name : List ℕ) (old new : Option (List ℕ)) (ends : Status)
    : Type 0 where
  pub verdict : Confirmed
  pub judges : Judges holds failing names name verdict
  pub written : new ≡ appended old (verdict_text verdict)
  pub ends_so : ends ≡ verdict_status verdict

-- the first bytes of the line of a right verdict were written
pub record WritesFirstOfVerdict (holds : Option Held) (failing : Option Failing) (names : FileNames) (name : List ℕ) (old new : Option (List ℕ))
    : Type 0 where
  pub verdict : Confirmed
  pub judges : Judges holds failing names name verdict
  pub written : AppendsFirst old new (verdict_text verdict)

-- the report tells a cycle of the priority of what the files say, and the refusal names one
pub record TellsCycleOf (holds : Option Held) (failing : Option Failing) (names : FileNames) (name : List ℕ) (r : Refusal) : Type 0 where
  pub kb : Knowledge
  pub q : Query
  pub vocab : Vocab
  pub report : List ℕ
  pub read : IsToConfirm holds failing names name kb q vocab report
  pub numbers : List ℕ
  pub tells : TellsRoundly kb vocab.inds q report numbers
  pub is_cycle : r ≡ refusal.Cycle (named_cycle kb.facts vocab numbers)

-- the report isn't judged: it tells a cycle of the priority, and the refusal names one, or memory ran out
abbrev pub StopsJudging : Knowledge → Query → Vocab → List ℕ → Refusal → Type 0
StopsJudging kb q vocab report r = (r ≡ refusal.NoMemory)
    ⊎ ((numbers : List ℕ) × TellsRoundly kb vocab.inds q report numbers × (r ≡ refusal.Cycle (named_cycle kb.facts vocab numbers)))
