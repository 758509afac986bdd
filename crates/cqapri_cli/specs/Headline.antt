-- The headline: what a classification has told where it ends with status 0 or 1.
use Rattle.std.specs.Prelude.{◌≡◌, ◌↔◌, ℕ, List, [], length, reverse, All, Option, Some}
use Rattle.cq_io.specs.Failing.{Failing}
use Rattle.cq_terms.specs.Knowledge.{Knowledge}
use Rattle.cq_terms.specs.Query.{Query}
use Rattle.cq_terms.specs.declared.facts.Repairs.{Repairs}
use Rattle.cq_terms.specs.declared.names.Vocab.{Vocab}
use Rattle.cq_meaning.specs.Candidates.{AreCandidates}
use Rattle.report_text.specs.LineBytes.{bytes_of}
use Rattle.report_text.specs.Lines.{IsWellFormed}
use Rattle.report_text.specs.declared.line.Line.{Line}
use Rattle.report_rules.specs.Accepted.{Accepts}
use Rattle.report_rules.specs.Inputs.{report_on}
use Rattle.report_rules.specs.Told.{keep_of}
use Rattle.report_laws.specs.Deciding.{budget_told}
use Rattle.report_laws.specs.Laws.{IsTrueLine, mode_told, tuples_of}
use Rattle.refutation_confirmer.specs.Saying.{IsYes}
use Rattle.cqapri_words.specs.Words.{FileNames, Settings}
use Rattle.cqapri_words.specs.declared.status.Status.{Status}
use Rattle.cqapri_words.specs.declared.status.Status.TheVariants as status
use Rattle.input_files.specs.Fetching.{Held}
use Rattle.input_files.specs.Meaning.{FilesSay}
use Rattle.cqapri_cli.specs.Limits.{IsWithinLimits}
use Rattle.cqapri_cli.specs.OpenAnswers.{LeaveOpen}
use Rattle.cqapri_cli.specs.Reading.{AreFetched}
use Rattle.cqapri_cli.specs.Spending.{SpendBudgets}

-- an accepted report on these repairs: its answers are the tuples that the whole table entails, each once and in order; each yes and each
-- no about some, all or the intersection of these repairs is true; the confirmer says yes to it; and a question is left open only after
-- its whole budget of new clauses was learned
pub record IsRightReport (kb : Knowledge) (names : List (List ℕ)) (q : Query) (mode : Repairs) (lines : List Line) : Type 0 where
  pub accepted : Accepts kb names q lines
  pub asks : mode_told lines ≡ mode
  pub candidates : AreCandidates kb q (tuples_of lines)
  pub verdicts : All (IsTrueLine kb mode q) lines
  pub confirmed : IsYes kb names q (bytes_of lines) (length (tuples_of lines))
  pub spent : SpendBudgets (report_on kb names q) (reverse lines)

-- what the output has got is the bytes of a right report, with the settings of the words in its head, and the status tells whether it
-- leaves a question open
pub record TellsRightReport (kb : Knowledge) (names : List (List ℕ)) (q : Query) (settings : Settings) (told : Option (List ℕ)) (ends : Status)
    : Type 0 where
  pub lines : List Line
  pub well_formed : All IsWellFormed lines
  pub bytes : told ≡ Some (bytes_of lines)
  pub right : IsRightReport kb names q settings.repairs lines
  pub budget : budget_told lines ≡ settings.budget
  pub keep : keep_of (reverse lines) ≡ settings.keep
  pub leaves_open : (ends ≡ status.Open) ↔ LeaveOpen lines

-- all files were fetched and say something, by numbers, that no limit refuses; where nothing was written before, the output tells the
-- right report on it
pub record Answers (holds : Option Held) (failing : Option Failing) (names : FileNames) (settings : Settings) (old new : Option (List ℕ)) (ends : Status)
    : Type 0 where
  pub kb : Knowledge
  pub q : Query
  pub vocab : Vocab
  pub say : FilesSay holds names kb q vocab
  pub fetched : AreFetched failing names
  pub within : IsWithinLimits kb q settings
  pub tells : old ≡ Some [] → TellsRightReport kb vocab.inds q settings new ends
