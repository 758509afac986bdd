-- What a classification leaves in the output where it is cut off.
use Rattle.std.specs.Prelude.{◌≡◌, ◌⊎◌, ℕ, List, [], reverse, Option, Some, IfSome}
use Rattle.cq_io.specs.Failing.{Failing}
use Rattle.cq_terms.specs.Knowledge.{Knowledge}
use Rattle.cq_terms.specs.Query.{Query}
use Rattle.report_text.specs.LineBytes.{AreBytesOf}
use Rattle.report_text.specs.declared.line.Line.{Line}
use Rattle.report_rules.specs.Accepted.{AreRight, Right}
use Rattle.report_rules.specs.Inputs.{report_on}
use Rattle.cqapri_words.specs.Words.{FileNames, Settings}
use Rattle.input_files.specs.Fetching.{Held}
use Rattle.cqapri_cli.specs.Limits.{IsWithinLimits}
use Rattle.cqapri_cli.specs.Reading.{SaySome}

-- whole right lines, and then at most a part of one right line more
pub record TellsRightLines (kb : Knowledge) (names : List (List ℕ)) (q : Query) (told : Option (List ℕ)) : Type 0 where
  pub bytes : List ℕ
  pub are_told : told ≡ Some bytes
  pub lines : List Line
  pub torn : Option Line
  pub exact : AreBytesOf lines torn bytes
  pub right : AreRight (report_on kb names q) (reverse lines)
  pub torn_right : IfSome torn (Right (report_on kb names q) (reverse lines))

-- the files say something that no limit refuses, and of the report on it the output has got whole right lines and at most a part of one
-- more, where nothing was written before
abbrev pub WritesPart : Option Held → Option Failing → FileNames → Settings → Option (List ℕ) → Option (List ℕ) → Type 0
WritesPart holds failing names settings old new =
    SaySome holds failing names (λ kb q vocab. IsWithinLimits kb q settings × (old ≡ Some [] → TellsRightLines kb vocab.inds q new))

-- nothing, or such a part
abbrev pub WritesNoneOrPart : Option Held → Option Failing → FileNames → Settings → Option (List ℕ) → Option (List ℕ) → Type 0
WritesNoneOrPart holds failing names settings old new = (new ≡ old) ⊎ WritesPart holds failing names settings old new
