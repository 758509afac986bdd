-- Tries: their JSON is plain and reads back as them, and what is read is right.
use Rattle.std.proofs.Common.{◌≡◌, ℕ, ◌≤◌, List, Some, codes, refl, arith, IsUtf8}
use Rattle.std.proofs.lemmas.Option.{option_and_then_some}
use Rattle.json.proofs.Printed.Utf8.{IsUtf8-are_ascii}
use Rattle.serde_json.specs.Data.{Data, depth}
use Rattle.serde_json.specs.Read.{max_depth}
use Rattle.report_text.specs.declared.line.Line.{Line}
use Rattle.report_text.specs.declared.line.Line.TheVariants as line
use Rattle.report_text.specs.declared.line.Question.{Question}
use Rattle.report_text.specs.declared.line.Question.TheVariants.{Brave, Iar, Ar}
use Rattle.report_fields.specs.Fields.{ids_at}
use Rattle.report_text.specs.TryLine.{IsWellFormedTry, question_word, question_of, question_at, try_data, try_at}
use Rattle.report_text.specs.Lines.{IsWellFormed}
use Rattle.report_fields.proofs.Plain.{IsPlain}
use Rattle.report_fields.proofs.FieldFacts.{items_depth-numbers, ArePlain-ids, each_of-ids, All-ids_at}

-- a question's word is UTF-8
IsUtf8-question_word : (question : Question) → IsUtf8 (question_word question)
IsUtf8-question_word Brave = IsUtf8-are_ascii _ refl
IsUtf8-question_word Iar = IsUtf8-are_ascii _ refl
IsUtf8-question_word Ar = IsUtf8-are_ascii _ refl

-- a question's word gives back the question
question_of-word : (question : Question) → question_of (question_word question) ≡ Some question
question_of-word Brave = refl
question_of-word Iar = refl
question_of-word Ar = refl

-- a well-formed try's JSON is plain
pub IsPlain-try_data : (question : Question) (assume : List ℕ) → IsWellFormedTry assume → IsPlain (try_data question assume)
IsPlain-try_data question assume h = (
  refl,
  (
    IsUtf8-are_ascii _ refl,
    ArePlain-ids assume h.assume_fits,
    (IsUtf8-are_ascii _ refl, IsUtf8-are_ascii _ refl, (IsUtf8-are_ascii _ refl, IsUtf8-question_word question, tt)),
  ),
)

-- a try's JSON is shallow
pub depth-try_data : (question : Question) (assume : List ℕ) → depth (try_data question assume) ≤ max_depth
depth-try_data question assume = omega (arith, items_depth-numbers assume)

-- a well-formed try's JSON gives back the try
pub try_at-try_data : (question : Question) (assume : List ℕ) → IsWellFormedTry assume → try_at (try_data question assume) ≡ Some (line.Try question assume)
try_at-try_data question assume h = rw (question_of-word question, each_of-ids assume h.assume_fits) refl

-- a try that is found is well formed
pub IsWellFormed-try_at : (d : Data) (found : Line) → try_at d ≡ Some found → IsWellFormed found
IsWellFormed-try_at d found e =
    option_and_then_some _ (question_at d) found e (λ question question_is e.
    option_and_then_some _ (ids_at (codes "assume") d) found e (λ assume assume_is e.
    let same : line.Try question assume ≡ found = cc e in
    rw (← same) (record { assume_fits = All-ids_at (codes "assume") d assume assume_is })))
