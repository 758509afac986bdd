-- The line that ends a report: `{"answers":N,"ar":N,"brave":N,"iar":N,"k":"end","undecided":N}`.
use Rattle.std.specs.Prelude.{ℕ, ◌<◌, ◌^◌, Option, Some, option_and_then, codes}
use Rattle.serde_json.specs.Data.{Data, string, object, no_members, member}
use Rattle.report_text.specs.declared.line.Line.{Line}
use Rattle.report_text.specs.declared.line.Line.TheVariants as line
use Rattle.report_fields.specs.Fields.{number_data, long_at}

-- an end is well formed: each number is in its range
pub record IsWellFormedEnd (answers brave ar iar undecided : ℕ) : Type 0 where
  pub answers_fit : answers < 2 ^ 64
  pub brave_fits : brave < 2 ^ 64
  pub ar_fits : ar < 2 ^ 64
  pub iar_fits : iar < 2 ^ 64
  pub undecided_fits : undecided < 2 ^ 64

-- the end as JSON
abbrev pub end_data : ℕ → ℕ → ℕ → ℕ → ℕ → Data
end_data answers brave ar iar undecided = object
    (member (codes "answers") (number_data answers)
    (member (codes "ar") (number_data ar)
    (member (codes "brave") (number_data brave)
    (member (codes "iar") (number_data iar)
    (member (codes "k") (string (codes "end"))
    (member (codes "undecided") (number_data undecided) no_members))))))

-- the end whose fields the value has
abbrev pub end_at : Data → Option Line
end_at d =
    option_and_then (λ answers.
    option_and_then (λ brave.
    option_and_then (λ ar.
    option_and_then (λ iar.
    option_and_then (λ undecided.
    Some (line.End answers brave ar iar undecided))
    (long_at (codes "undecided") d))
    (long_at (codes "iar") d))
    (long_at (codes "ar") d))
    (long_at (codes "brave") d))
    (long_at (codes "answers") d)
