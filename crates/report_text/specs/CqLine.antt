-- The line of a query of a closure:
-- `{"body":[ATOMS],"head":[TERMS],"k":"cq","move":MOVE,"of":"query" or N,"parent":null or N}`, where a move is `null`,
-- `["axiom",ATOM,AXIOM]` or `["reduce",FIRST,SECOND]`.
use Rattle.std.specs.Prelude.{ℕ, ◌<◌, ◌^◌, List, All, Option, Some, None, IfSome, is_some, option_and_then, if◌then◌else◌, codes}
use Rattle.std.specs.Str.{bytes_eq}
use Rattle.serde_json.specs.Data.{Data, null, string, array, no_items, item, object, no_members, member}
use Rattle.serde_json.specs.Find.{get, as_str}
use Rattle.cq_terms.specs.Query.{Query, IsSafe}
use Rattle.cq_steps.specs.declared.moves.Move.{Move}
use Rattle.cq_steps.specs.declared.moves.Move.TheVariants as step
use Rattle.report_text.specs.declared.line.Line.{Line}
use Rattle.report_text.specs.declared.line.Line.TheVariants as line
use Rattle.report_text.specs.declared.line.Origin.{Origin}
use Rattle.report_text.specs.declared.line.Origin.TheVariants as origin
use Rattle.report_fields.specs.Fields.{number_data, is_null, id_of, id_in, word_in}
use Rattle.report_fields.specs.Atoms.{IsTermInRange, IsAtomInRange, terms_data, atoms_data, terms_at, atoms_at}
use Rattle.cq_terms.specs.SafeQuery.{if_safe}

-- the number of the axiom is in its range
abbrev pub IsOriginInRange : Origin → Type 0
IsOriginInRange origin.Query = Unit {0}
IsOriginInRange (origin.Negative rule) = rule < 2 ^ 32

-- the numbers of the move are in their range
abbrev pub IsMoveInRange : Move → Type 0
IsMoveInRange (step.Axiom place rule) = (place < 2 ^ 32) × (rule < 2 ^ 32)
IsMoveInRange (step.Reduce first second) = (first < 2 ^ 32) × (second < 2 ^ 32)

-- a query is well formed: its body isn't empty, its head has no `_` and only variables of the body, and each number is in
-- its range
pub record IsWellFormedCq (of : Origin) (query : Query) (made_by : Option (ℕ × Move)) : Type 0 where
  pub safe : IsSafe query
  pub origin_fits : IsOriginInRange of
  pub head_fits : All IsTermInRange query.head
  pub body_fits : All IsAtomInRange query.body
  pub step_fits : IfSome made_by (λ s. (s.0 < 2 ^ 32) × IsMoveInRange s.1)

-- of which query the closure is
abbrev pub origin_data : Origin → Data
origin_data origin.Query = string (codes "query")
origin_data (origin.Negative rule) = number_data rule

-- a move
abbrev pub move_data : Move → Data
move_data (step.Axiom place rule) = array (item (string (codes "axiom")) (item (number_data place) (item (number_data rule) no_items)))
move_data (step.Reduce first second) = array (item (string (codes "reduce")) (item (number_data first) (item (number_data second) no_items)))

-- the move of a step, or null for none
abbrev pub move_data_of : Option (ℕ × Move) → Data
move_data_of None = null
move_data_of (Some s) = move_data s.1

-- the place from which a step goes, or null for none
abbrev pub parent_data : Option (ℕ × Move) → Data
parent_data None = null
parent_data (Some s) = number_data s.0

-- the query as JSON
abbrev pub cq_data : Origin → Query → Option (ℕ × Move) → Data
cq_data of query made_by = object
    (member (codes "body") (atoms_data query.body)
    (member (codes "head") (terms_data query.head)
    (member (codes "k") (string (codes "cq"))
    (member (codes "move") (move_data_of made_by)
    (member (codes "of") (origin_data of)
    (member (codes "parent") (parent_data made_by) no_members))))))

-- READ

-- the value as what a closure is of
abbrev pub origin_of : Data → Option Origin
origin_of d = if is_some (as_str d) then Some origin.Query else option_and_then (λ rule. Some (origin.Negative rule)) (id_of d)

-- the same under its key
abbrev pub origin_at : Data → Option Origin
origin_at d = option_and_then origin_of (get (codes "of") d)

-- the value as the move by an axiom
abbrev pub axiom_move_of : Data → Option Move
axiom_move_of d = option_and_then (λ place. option_and_then (λ rule. Some (step.Axiom place rule)) (id_in 2 d)) (id_in 1 d)

-- the value as the move that makes two atoms one
abbrev pub reduce_move_of : Data → Option Move
reduce_move_of d = option_and_then (λ first. option_and_then (λ second. Some (step.Reduce first second)) (id_in 2 d)) (id_in 1 d)

-- the value as a move of the kind that the word names
abbrev pub move_of_kind : List ℕ → Data → Option Move
move_of_kind word d =
    if bytes_eq word (codes "axiom") then axiom_move_of d
    else if bytes_eq word (codes "reduce") then reduce_move_of d
    else None

-- the value as a move
abbrev pub move_of : Data → Option Move
move_of d = option_and_then (λ word. move_of_kind word d) (word_in 0 d)

-- the step of a parent and a move
abbrev pub step_of : Data → Data → Option (Option (ℕ × Move))
step_of parent made_by =
    if is_null parent then Some None
    else option_and_then (λ number. option_and_then (λ s. Some (Some (number, s))) (move_of made_by)) (id_of parent)

-- the step under its keys
abbrev pub step_at : Data → Option (Option (ℕ × Move))
step_at d = option_and_then (λ parent. option_and_then (λ made_by. step_of parent made_by) (get (codes "move") d)) (get (codes "parent") d)

-- the query of the body and the head that the value has
abbrev pub query_at : Data → Option Query
query_at d = option_and_then (λ head. option_and_then (λ body. if_safe head body) (atoms_at (codes "body") d)) (terms_at (codes "head") d)

-- the query whose fields the value has
abbrev pub cq_at : Data → Option Line
cq_at d =
    option_and_then (λ of.
    option_and_then (λ made_by.
    option_and_then (λ query.
    Some (line.Cq of query made_by))
    (query_at d))
    (step_at d))
    (origin_at d)
