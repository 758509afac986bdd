-- Queries of closures: their JSON is plain and reads back as them, and what is read is right.
use Rattle.std.proofs.Common.{◌≡◌, ℕ, ◌<◌, ◌≤◌, ◌^◌, Bool, true, false, Option, Some, None, IfSome, option_and_then, codes, refl, subst, sym, arith, All}
use Rattle.std.specs.Prelude.{if◌then◌else◌, is_some}
use Rattle.std.specs.Str.{bytes_eq}
use Rattle.std.proofs.lemmas.Option.{option_and_then_some}
use Rattle.json.proofs.Printed.Utf8.{IsUtf8-are_ascii}
use Rattle.serde_json.specs.Data.{Data, depth}
use Rattle.serde_json.specs.Find.{get, as_str}
use Rattle.serde_json.specs.Read.{max_depth}
use Rattle.cq_terms.specs.Query.{Query, IsSafe}
use Rattle.cq_steps.specs.declared.moves.Move.{Move}
use Rattle.cq_steps.specs.declared.moves.Move.TheVariants as step
use Rattle.report_text.specs.declared.line.Line.{Line}
use Rattle.report_text.specs.declared.line.Line.TheVariants as line
use Rattle.report_text.specs.declared.line.Origin.{Origin}
use Rattle.report_text.specs.declared.line.Origin.TheVariants as origin
use Rattle.report_fields.specs.Fields.{is_null, id_of, id_in, word_in}
use Rattle.report_fields.specs.Atoms.{IsTermInRange, IsAtomInRange, terms_at, atoms_at}
use Rattle.report_text.specs.CqLine.{IsOriginInRange, IsMoveInRange, IsWellFormedCq, origin_data, move_data, move_data_of, parent_data, cq_data, origin_of}
use Rattle.report_text.specs.CqLine.{origin_at, axiom_move_of, reduce_move_of, move_of_kind, move_of, step_of, step_at, query_at, cq_at}
use Rattle.report_text.specs.Lines.{IsWellFormed}
use Rattle.report_fields.proofs.Plain.{IsPlain}
use Rattle.report_fields.proofs.FieldFacts.{if_below-lt, below-id_of, below-id_in}
use Rattle.report_fields.proofs.AtomFacts.{items_depth-terms, items_depth-atoms, ArePlain-terms, ArePlain-atoms, each_of-terms, each_of-atoms, All-terms_at}
use Rattle.report_fields.proofs.AtomFacts.{All-atoms_at}
use Rattle.cq_terms.proofs.SafeFacts.{if_safe-query, IsSafe-if_safe}

-- the numbers of the step are in their range
abbrev IsStepInRange : Option (ℕ × Move) → Type 0
IsStepInRange made_by = IfSome made_by (λ s. (s.0 < 2 ^ 32) × IsMoveInRange s.1)

-- ORIGINS AND STEPS PRINTED

-- each of these is shallow
depth-origin_data : (of : Origin) → depth (origin_data of) ≡ 0
depth-origin_data origin.Query = refl
depth-origin_data (origin.Negative rule) = refl

depth-move_data_of : (made_by : Option (ℕ × Move)) → depth (move_data_of made_by) ≤ 1
depth-move_data_of None = omega arith
depth-move_data_of (Some (parent, step.Axiom place rule)) = omega arith
depth-move_data_of (Some (parent, step.Reduce first second)) = omega arith

depth-parent_data : (made_by : Option (ℕ × Move)) → depth (parent_data made_by) ≡ 0
depth-parent_data None = refl
depth-parent_data (Some s) = refl

-- in their ranges these are plain
IsPlain-origin_data : (of : Origin) → IsOriginInRange of → IsPlain (origin_data of)
IsPlain-origin_data origin.Query h = IsUtf8-are_ascii _ refl
IsPlain-origin_data (origin.Negative rule) h = let small : rule < 2 ^ 32 = h in omega arith

IsPlain-move_data : (made_by : Move) → IsMoveInRange made_by → IsPlain (move_data made_by)
IsPlain-move_data (step.Axiom place rule) h = let small : place < 2 ^ 32 = h.0 in let also : rule < 2 ^ 32 = h.1 in
    (IsUtf8-are_ascii _ refl, (omega arith, (omega arith, tt)))
IsPlain-move_data (step.Reduce first second) h = let small : first < 2 ^ 32 = h.0 in let also : second < 2 ^ 32 = h.1 in
    (IsUtf8-are_ascii _ refl, (omega arith, (omega arith, tt)))

IsPlain-move_data_of : (made_by : Option (ℕ × Move)) → IsStepInRange made_by → IsPlain (move_data_of made_by)
IsPlain-move_data_of None h = tt
IsPlain-move_data_of (Some s) h = IsPlain-move_data s.1 h.1

IsPlain-parent_data : (made_by : Option (ℕ × Move)) → IsStepInRange made_by → IsPlain (parent_data made_by)
IsPlain-parent_data None h = tt
IsPlain-parent_data (Some s) h = let small : s.0 < 2 ^ 32 = h.0 in omega arith

-- LINES PRINTED

-- a well-formed query's JSON is plain
pub IsPlain-cq_data : (of : Origin) (query : Query) (made_by : Option (ℕ × Move)) → IsWellFormedCq of query made_by → IsPlain (cq_data of query made_by)
IsPlain-cq_data of query made_by h = (
  refl,
  (
    IsUtf8-are_ascii _ refl,
    ArePlain-atoms query.body h.body_fits,
    (
      IsUtf8-are_ascii _ refl,
      ArePlain-terms query.head h.head_fits,
      (
        IsUtf8-are_ascii _ refl,
        IsUtf8-are_ascii _ refl,
        (
          IsUtf8-are_ascii _ refl,
          IsPlain-move_data_of made_by h.step_fits,
          (IsUtf8-are_ascii _ refl, IsPlain-origin_data of h.origin_fits, (IsUtf8-are_ascii _ refl, IsPlain-parent_data made_by h.step_fits, tt)),
        ),
      ),
    ),
  ),
)

-- a query's JSON is shallow
pub depth-cq_data : (of : Origin) (query : Query) (made_by : Option (ℕ × Move)) → depth (cq_data of query made_by) ≤ max_depth
depth-cq_data of query made_by = omega (
  arith,
  items_depth-atoms query.body,
  items_depth-terms query.head,
  depth-move_data_of made_by,
  depth-origin_data of,
  depth-parent_data made_by,
)

-- READ BACK

-- an origin reads back
origin_of-origin_data : (of : Origin) → IsOriginInRange of → origin_of (origin_data of) ≡ Some of
origin_of-origin_data origin.Query h = refl
origin_of-origin_data (origin.Negative rule) h = rw (if_below-lt (2 ^ 32) rule h) refl

-- a move reads back
move_of-move_data : (made_by : Move) → IsMoveInRange made_by → move_of (move_data made_by) ≡ Some made_by
move_of-move_data (step.Axiom place rule) h = rw (if_below-lt (2 ^ 32) place h.0, if_below-lt (2 ^ 32) rule h.1) refl
move_of-move_data (step.Reduce first second) h = rw (if_below-lt (2 ^ 32) first h.0, if_below-lt (2 ^ 32) second h.1) refl

-- a step reads back
step_of-data : (made_by : Option (ℕ × Move)) → IsStepInRange made_by → step_of (parent_data made_by) (move_data_of made_by) ≡ Some made_by
step_of-data None h = refl
step_of-data (Some s) h = rw (if_below-lt (2 ^ 32) s.0 h.0, move_of-move_data s.1 h.1) refl

-- a well-formed query's JSON gives back the query
pub cq_at-cq_data : (of : Origin) (query : Query) (made_by : Option (ℕ × Move)) → IsWellFormedCq of query made_by
    → cq_at (cq_data of query made_by) ≡ Some (line.Cq of query made_by)
cq_at-cq_data of query made_by h =
    rw (
      origin_of-origin_data of h.origin_fits,
      step_of-data made_by h.step_fits,
      each_of-terms query.head h.head_fits,
      each_of-atoms query.body h.body_fits,
      if_safe-query query h.safe,
    ) refl

-- WHAT IS READ IS RIGHT

-- an origin that is read is in its range
IsOriginInRange-origin_of : (d : Data) (of : Origin) → origin_of d ≡ Some of → IsOriginInRange of
IsOriginInRange-origin_of d of e = by (is_some (as_str d)) e
  where
    by : (b : Bool) → (if b then Some origin.Query else option_and_then (λ rule. Some (origin.Negative rule)) (id_of d)) ≡ Some of → IsOriginInRange of
    by true e = let same : origin.Query ≡ of = cc e in rw (← same) tt
    by false e = option_and_then_some (λ rule. Some (origin.Negative rule)) (id_of d) of e
        (λ rule rule_is is. let same : origin.Negative rule ≡ of = cc is in rw (← same) (below-id_of d rule rule_is))

IsOriginInRange-origin_at : (d : Data) (of : Origin) → origin_at d ≡ Some of → IsOriginInRange of
IsOriginInRange-origin_at d of e = option_and_then_some origin_of (get (codes "of") d) of e (λ found from is. IsOriginInRange-origin_of found of is)

-- a move that is read is in its range
IsMoveInRange-axiom_move_of : (d : Data) (made_by : Move) → axiom_move_of d ≡ Some made_by → IsMoveInRange made_by
IsMoveInRange-axiom_move_of d made_by e =
    option_and_then_some _ (id_in 1 d) made_by e (λ place place_is e.
    option_and_then_some _ (id_in 2 d) made_by e (λ rule rule_is e.
    let same : step.Axiom place rule ≡ made_by = cc e in
    rw (← same) (below-id_in 1 d place place_is, below-id_in 2 d rule rule_is)))

IsMoveInRange-reduce_move_of : (d : Data) (made_by : Move) → reduce_move_of d ≡ Some made_by → IsMoveInRange made_by
IsMoveInRange-reduce_move_of d made_by e =
    option_and_then_some _ (id_in 1 d) made_by e (λ first first_is e.
    option_and_then_some _ (id_in 2 d) made_by e (λ second second_is e.
    let same : step.Reduce first second ≡ made_by = cc e in
    rw (← same) (below-id_in 1 d first first_is, below-id_in 2 d second second_is)))

IsMoveInRange-move_of : (d : Data) (made_by : Move) → move_of d ≡ Some made_by → IsMoveInRange made_by
IsMoveInRange-move_of d made_by e =
    option_and_then_some (λ word. move_of_kind word d) (word_in 0 d) made_by e
    (λ word word_is e. by (bytes_eq word (codes "axiom")) (bytes_eq word (codes "reduce")) e)
  where
    by : (x y : Bool) → (if x then axiom_move_of d else if y then reduce_move_of d else None) ≡ Some made_by → IsMoveInRange made_by
    by true y e = IsMoveInRange-axiom_move_of d made_by e
    by false true e = IsMoveInRange-reduce_move_of d made_by e
    by false false e = cc e

-- a step that is read is in its range
IsStepInRange-step_of : (parent moved : Data) (made_by : Option (ℕ × Move)) → step_of parent moved ≡ Some made_by → IsStepInRange made_by
IsStepInRange-step_of parent moved made_by e = by (is_null parent) e
  where
    by : (b : Bool) → (if b then Some None else option_and_then (λ number. option_and_then (λ s. Some (Some (number, s))) (move_of moved)) (id_of parent))
        ≡ Some made_by → IsStepInRange made_by
    by true e = let same : None ≡ made_by = cc e in rw (← same) tt
    by false e =
        option_and_then_some _ (id_of parent) made_by e (λ number number_is e.
        option_and_then_some _ (move_of moved) made_by e (λ s s_is e.
        let same : Some (number, s) ≡ made_by = cc e in
        rw (← same) (below-id_of parent number number_is, IsMoveInRange-move_of moved s s_is)))

IsStepInRange-step_at : (d : Data) (made_by : Option (ℕ × Move)) → step_at d ≡ Some made_by → IsStepInRange made_by
IsStepInRange-step_at d made_by e =
    option_and_then_some _ (get (codes "parent") d) made_by e (λ parent parent_is e.
    option_and_then_some _ (get (codes "move") d) made_by e (λ moved moved_is e. IsStepInRange-step_of parent moved made_by e))

-- a query that is found is safe and in its range
query_found : (d : Data) (query : Query) → query_at d ≡ Some query → IsSafe query × All IsTermInRange query.head × All IsAtomInRange query.body
query_found d query e =
    option_and_then_some _ (terms_at (codes "head") d) query e (λ head head_is e.
    option_and_then_some _ (atoms_at (codes "body") d) query e (λ body body_is e.
    let found = IsSafe-if_safe head body query e in (
      found.0,
      subst (All IsTermInRange) (sym found.1) (All-terms_at (codes "head") d head head_is),
      subst (All IsAtomInRange) (sym found.2) (All-atoms_at (codes "body") d body body_is),
    )))

-- a query's line that is found is well formed
pub IsWellFormed-cq_at : (d : Data) (found : Line) → cq_at d ≡ Some found → IsWellFormed found
IsWellFormed-cq_at d found e =
    option_and_then_some _ (origin_at d) found e (λ of of_is e.
    option_and_then_some _ (step_at d) found e (λ made_by made_by_is e.
    option_and_then_some _ (query_at d) found e (λ query query_is e.
    let same : line.Cq of query made_by ≡ found = cc e in
    let right = query_found d query query_is in
    rw (← same) (record {
      safe = right.0;
      origin_fits = IsOriginInRange-origin_at d of of_is;
      head_fits = right.1;
      body_fits = right.2;
      step_fits = IsStepInRange-step_at d made_by made_by_is;
    }))))
