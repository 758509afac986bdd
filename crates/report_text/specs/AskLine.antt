-- The line that opens a candidate: `{"candidate":N,"causes":[LISTS],"k":"ask","members":[NS],"tuple":[NS]}`.
use Rattle.std.specs.Prelude.{ℕ, ◌<◌, ◌^◌, List, All, Option, Some, option_and_then, codes}
use Rattle.serde_json.specs.Data.{Data, string, object, no_members, member}
use Rattle.report_text.specs.declared.line.Line.{Line}
use Rattle.report_text.specs.declared.line.Line.TheVariants as line
use Rattle.report_fields.specs.Fields.{number_data, numbers_data, lists_data, id_at, ids_at, id_lists_at}

-- a candidate is well formed: each number is in its range
pub record IsWellFormedAsk (candidate : ℕ) (tuple : List ℕ) (causes : List (List ℕ)) (members : List ℕ) : Type 0 where
  pub candidate_fits : candidate < 2 ^ 32
  pub tuple_fits : All (λ n. n < 2 ^ 32) tuple
  pub causes_fit : All (λ cause. All (λ n. n < 2 ^ 32) cause) causes
  pub members_fit : All (λ n. n < 2 ^ 32) members

-- the candidate as JSON
abbrev pub ask_data : ℕ → List ℕ → List (List ℕ) → List ℕ → Data
ask_data candidate tuple causes members = object
    (member (codes "candidate") (number_data candidate)
    (member (codes "causes") (lists_data causes)
    (member (codes "k") (string (codes "ask"))
    (member (codes "members") (numbers_data members)
    (member (codes "tuple") (numbers_data tuple) no_members)))))

-- READ

-- the candidate whose fields the value has
abbrev pub ask_at : Data → Option Line
ask_at d =
    option_and_then (λ candidate.
    option_and_then (λ tuple.
    option_and_then (λ causes.
    option_and_then (λ members.
    Some (line.Ask candidate tuple causes members))
    (ids_at (codes "members") d))
    (id_lists_at (codes "causes") d))
    (ids_at (codes "tuple") d))
    (id_at (codes "candidate") d)
