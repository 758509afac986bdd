-- The line of a conflict: `{"facts":[N] or [N,N],"k":"conflict","member":N,"of":N}`.
use Rattle.std.specs.Prelude.{◌≡◌, ◌==◌, ℕ, ◌<◌, ◌^◌, ◌⊎◌, ◌||◌, List, length, All, Bool, Option, Some, None, option_and_then, if◌then◌else◌, codes}
use Rattle.serde_json.specs.Data.{Data, string, object, no_members, member}
use Rattle.report_text.specs.declared.line.Line.{Line}
use Rattle.report_text.specs.declared.line.Line.TheVariants as line
use Rattle.report_fields.specs.Fields.{number_data, numbers_data, id_at, ids_at}

-- a conflict is well formed: it is of one or two facts, and each number is in its range
pub record IsWellFormedConflict (facts : List ℕ) (rule place : ℕ) : Type 0 where
  pub one_or_two : (length facts ≡ 1) ⊎ (length facts ≡ 2)
  pub facts_fit : All (λ n. n < 2 ^ 32) facts
  pub rule_fits : rule < 2 ^ 32
  pub place_fits : place < 2 ^ 32

-- the conflict as JSON
abbrev pub conflict_data : List ℕ → ℕ → ℕ → Data
conflict_data facts rule place = object
    (member (codes "facts") (numbers_data facts)
    (member (codes "k") (string (codes "conflict"))
    (member (codes "member") (number_data place)
    (member (codes "of") (number_data rule) no_members))))

-- READ

-- whether it is one or two
abbrev pub is_one_or_two : ℕ → Bool
is_one_or_two count = (count == 1) || (count == 2)

-- the conflict whose fields the value has
abbrev pub conflict_at : Data → Option Line
conflict_at d =
    option_and_then (λ rule.
    option_and_then (λ place.
    option_and_then (λ facts.
    if is_one_or_two (length facts) then Some (line.Conflict facts rule place) else None)
    (ids_at (codes "facts") d))
    (id_at (codes "member") d))
    (id_at (codes "of") d)
