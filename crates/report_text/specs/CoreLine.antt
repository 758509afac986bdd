-- The line of a core: `{"dropped":[NS],"k":"core","kept":[NS],"n":N}`.
use Rattle.std.specs.Prelude.{ℕ, ◌<◌, ◌^◌, List, All, Option, Some, option_and_then, codes}
use Rattle.serde_json.specs.Data.{Data, string, object, no_members, member}
use Rattle.report_text.specs.declared.line.Line.{Line}
use Rattle.report_text.specs.declared.line.Line.TheVariants as line
use Rattle.report_fields.specs.Fields.{number_data, numbers_data, long_at, ids_at}

-- a core is well formed: each number is in its range
pub record IsWellFormedCore (number : ℕ) (kept dropped : List ℕ) : Type 0 where
  pub number_fits : number < 2 ^ 64
  pub kept_fit : All (λ n. n < 2 ^ 32) kept
  pub dropped_fit : All (λ n. n < 2 ^ 32) dropped

-- the core as JSON
abbrev pub core_data : ℕ → List ℕ → List ℕ → Data
core_data number kept dropped = object
    (member (codes "dropped") (numbers_data dropped)
    (member (codes "k") (string (codes "core"))
    (member (codes "kept") (numbers_data kept)
    (member (codes "n") (number_data number) no_members))))

-- the core whose fields the value has
abbrev pub core_at : Data → Option Line
core_at d =
    option_and_then (λ number.
    option_and_then (λ kept.
    option_and_then (λ dropped.
    Some (line.Core number kept dropped))
    (ids_at (codes "dropped") d))
    (ids_at (codes "kept") d))
    (long_at (codes "n") d)
