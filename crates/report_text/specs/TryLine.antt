-- The line of a try: `{"assume":[NS],"k":"try","q":"brave", "iar" or "ar"}`.
use Rattle.std.specs.Prelude.{ℕ, ◌<◌, ◌^◌, List, All, Option, Some, None, option_and_then, if◌then◌else◌, codes}
use Rattle.std.specs.Str.{bytes_eq}
use Rattle.serde_json.specs.Data.{Data, string, object, no_members, member}
use Rattle.report_text.specs.declared.line.Line.{Line}
use Rattle.report_text.specs.declared.line.Line.TheVariants as line
use Rattle.report_text.specs.declared.line.Question.{Question}
use Rattle.report_text.specs.declared.line.Question.TheVariants.{Brave, Iar, Ar}
use Rattle.report_fields.specs.Fields.{numbers_data, word_at, ids_at}

-- a try is well formed: each number is in its range
pub record IsWellFormedTry (assume : List ℕ) : Type 0 where
  pub assume_fits : All (λ n. n < 2 ^ 32) assume

-- the word for a question
abbrev pub question_word : Question → List ℕ
question_word Brave = codes "brave"
question_word Iar = codes "iar"
question_word Ar = codes "ar"

-- the try as JSON
abbrev pub try_data : Question → List ℕ → Data
try_data question assume = object
    (member (codes "assume") (numbers_data assume)
    (member (codes "k") (string (codes "try"))
    (member (codes "q") (string (question_word question)) no_members)))

-- READ

-- the question that the word stands for
abbrev pub question_of : List ℕ → Option Question
question_of word =
    if bytes_eq word (codes "brave") then Some Brave
    else if bytes_eq word (codes "iar") then Some Iar
    else if bytes_eq word (codes "ar") then Some Ar
    else None

-- the question under its key
abbrev pub question_at : Data → Option Question
question_at d = option_and_then question_of (word_at (codes "q") d)

-- the try whose fields the value has
abbrev pub try_at : Data → Option Line
try_at d =
    option_and_then (λ question.
    option_and_then (λ assume.
    Some (line.Try question assume))
    (ids_at (codes "assume") d))
    (question_at d)
