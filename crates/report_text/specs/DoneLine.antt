-- The line that ends a try: `{"core":null or N,"how":"model", "refuted" or "spent","k":"done"}`.
use Rattle.std.specs.Prelude.{◌≡◌, ℕ, ◌<◌, ◌^◌, ◌↔◌, List, Bool, true, false, Option, Some, None, IfSome, IsSome, option_and_then, if◌then◌else◌, codes}
use Rattle.std.specs.Str.{bytes_eq}
use Rattle.serde_json.specs.Data.{Data, string, object, no_members, member}
use Rattle.report_text.specs.declared.line.Line.{Line}
use Rattle.report_text.specs.declared.line.Line.TheVariants as line
use Rattle.report_text.specs.declared.line.How.{How}
use Rattle.report_text.specs.declared.line.How.TheVariants.{Model, Refuted, Spent}
use Rattle.report_fields.specs.Fields.{long_or_null_data, word_at, long_or_null_at}

-- the end of a try is well formed: there is a core exactly where there is a model, and its number is in its range
pub record IsWellFormedDone (how : How) (core : Option ℕ) : Type 0 where
  pub core_of_model : IsSome core ↔ (how ≡ Model)
  pub core_fits : IfSome core (λ n. n < 2 ^ 64)

-- the word for how a try ended
abbrev pub how_word : How → List ℕ
how_word Model = codes "model"
how_word Refuted = codes "refuted"
how_word Spent = codes "spent"

-- the end of a try as JSON
abbrev pub done_data : How → Option ℕ → Data
done_data how core = object
    (member (codes "core") (long_or_null_data core)
    (member (codes "how") (string (how_word how))
    (member (codes "k") (string (codes "done")) no_members)))

-- READ

-- how a try ended by the word
abbrev pub how_of : List ℕ → Option How
how_of word =
    if bytes_eq word (codes "model") then Some Model
    else if bytes_eq word (codes "refuted") then Some Refuted
    else if bytes_eq word (codes "spent") then Some Spent
    else None

-- how a try ended, under its key
abbrev pub how_at : Data → Option How
how_at d = option_and_then how_of (word_at (codes "how") d)

-- whether there is a core exactly where there is a model
abbrev pub has_its_core : How → Option ℕ → Bool
has_its_core Model (Some n) = true
has_its_core Model None = false
has_its_core Refuted (Some n) = false
has_its_core Refuted None = true
has_its_core Spent (Some n) = false
has_its_core Spent None = true

-- the end of a try whose fields the value has
abbrev pub done_at : Data → Option Line
done_at d =
    option_and_then (λ how.
    option_and_then (λ core.
    if has_its_core how core then Some (line.Done how core) else None)
    (long_or_null_at (codes "core") d))
    (how_at d)
