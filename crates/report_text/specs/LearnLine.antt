-- The line of a learned clause: `{"clause":[NS],"k":"learn","n":N}`.
use Rattle.std.specs.Prelude.{ℕ, ◌<◌, ◌^◌, List, All, Option, Some, option_and_then, codes}
use Rattle.serde_json.specs.Data.{Data, string, object, no_members, member}
use Rattle.report_text.specs.declared.line.Line.{Line}
use Rattle.report_text.specs.declared.line.Line.TheVariants as line
use Rattle.report_fields.specs.Fields.{number_data, numbers_data, long_at, ids_at}

-- a learned clause is well formed: each number is in its range
pub record IsWellFormedLearn (number : ℕ) (clause : List ℕ) : Type 0 where
  pub number_fits : number < 2 ^ 64
  pub clause_fits : All (λ n. n < 2 ^ 32) clause

-- the learned clause as JSON
abbrev pub learn_data : ℕ → List ℕ → Data
learn_data number clause = object
    (member (codes "clause") (numbers_data clause)
    (member (codes "k") (string (codes "learn"))
    (member (codes "n") (number_data number) no_members)))

-- READ

-- the learned clause whose fields the value has
abbrev pub learn_at : Data → Option Line
learn_at d =
    option_and_then (λ number.
    option_and_then (λ clause.
    Some (line.Learn number clause))
    (ids_at (codes "clause") d))
    (long_at (codes "n") d)
