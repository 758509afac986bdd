-- The line of learned clauses that are no longer used: `{"clauses":[NS],"k":"forget"}`.
use Rattle.std.specs.Prelude.{ℕ, ◌<◌, ◌^◌, List, All, Option, Some, option_and_then, codes}
use Rattle.serde_json.specs.Data.{Data, string, object, no_members, member}
use Rattle.report_text.specs.declared.line.Line.{Line}
use Rattle.report_text.specs.declared.line.Line.TheVariants as line
use Rattle.report_fields.specs.Fields.{numbers_data, longs_at}

-- forgotten clauses are well formed: each number is in its range
pub record IsWellFormedForget (clauses : List ℕ) : Type 0 where
  pub clauses_fit : All (λ n. n < 2 ^ 64) clauses

-- the forgotten clauses as JSON
abbrev pub forget_data : List ℕ → Data
forget_data clauses = object
    (member (codes "clauses") (numbers_data clauses)
    (member (codes "k") (string (codes "forget")) no_members))

-- READ

-- the forgotten clauses whose numbers the value has
abbrev pub forget_at : Data → Option Line
forget_at d = option_and_then (λ clauses. Some (line.Forget clauses)) (longs_at (codes "clauses") d)
