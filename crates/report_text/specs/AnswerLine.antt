-- The line of a candidate: `{"ar":V,"brave":V,"cores":[NS],"iar":V,"k":"answer","names":[TEXTS],"tuple":[NS]}`.
use Rattle.std.specs.Prelude.{ℕ, ◌<◌, ◌^◌, List, All, Option, Some, None, option_and_then, if◌then◌else◌, codes, IsUtf8}
use Rattle.std.specs.Str.{bytes_eq}
use Rattle.serde_json.specs.Data.{Data, string, object, no_members, member}
use Rattle.report_text.specs.declared.line.Line.{Line}
use Rattle.report_text.specs.declared.line.Line.TheVariants as line
use Rattle.report_text.specs.declared.line.Verdict.{Verdict}
use Rattle.report_text.specs.declared.line.Verdict.TheVariants.{Yes, No, Undecided}
use Rattle.report_fields.specs.Fields.{numbers_data, texts_data, word_at, longs_at, ids_at, texts_at}

-- an answer is well formed: each number is in its range, and each name is UTF-8
pub record IsWellFormedAnswer (cores : List ℕ) (names : List (List ℕ)) (tuple : List ℕ) : Type 0 where
  pub cores_fit : All (λ n. n < 2 ^ 64) cores
  pub names_are_texts : All IsUtf8 names
  pub tuple_fits : All (λ n. n < 2 ^ 32) tuple

-- the word for a verdict
abbrev pub verdict_word : Verdict → List ℕ
verdict_word Yes = codes "yes"
verdict_word No = codes "no"
verdict_word Undecided = codes "undecided"

-- the answer as JSON
abbrev pub answer_data : Verdict → Verdict → Verdict → List ℕ → List (List ℕ) → List ℕ → Data
answer_data brave ar iar cores names tuple = object
    (member (codes "ar") (string (verdict_word ar))
    (member (codes "brave") (string (verdict_word brave))
    (member (codes "cores") (numbers_data cores)
    (member (codes "iar") (string (verdict_word iar))
    (member (codes "k") (string (codes "answer"))
    (member (codes "names") (texts_data names)
    (member (codes "tuple") (numbers_data tuple) no_members)))))))

-- READ

-- the verdict that the word stands for
abbrev pub verdict_of : List ℕ → Option Verdict
verdict_of word =
    if bytes_eq word (codes "yes") then Some Yes
    else if bytes_eq word (codes "no") then Some No
    else if bytes_eq word (codes "undecided") then Some Undecided
    else None

-- the verdict under a key
abbrev pub verdict_at : List ℕ → Data → Option Verdict
verdict_at key d = option_and_then verdict_of (word_at key d)

-- the answer whose fields the value has
abbrev pub answer_at : Data → Option Line
answer_at d =
    option_and_then (λ brave.
    option_and_then (λ ar.
    option_and_then (λ iar.
    option_and_then (λ cores.
    option_and_then (λ names.
    option_and_then (λ tuple.
    Some (line.Answer brave ar iar cores names tuple))
    (ids_at (codes "tuple") d))
    (texts_at (codes "names") d))
    (longs_at (codes "cores") d))
    (verdict_at (codes "iar") d))
    (verdict_at (codes "ar") d))
    (verdict_at (codes "brave") d)
