-- Candidates: their JSON is plain and reads back as them, and what is read is right.
use Rattle.std.proofs.Common.{◌≡◌, ℕ, ◌≤◌, ◌^◌, List, Some, codes, refl, arith}
use Rattle.std.proofs.lemmas.Option.{option_and_then_some}
use Rattle.json.proofs.Printed.Utf8.{IsUtf8-are_ascii}
use Rattle.serde_json.specs.Data.{Data, depth}
use Rattle.serde_json.specs.Read.{max_depth}
use Rattle.report_text.specs.declared.line.Line.{Line}
use Rattle.report_text.specs.declared.line.Line.TheVariants as line
use Rattle.report_fields.specs.Fields.{id_at, ids_at, id_lists_at}
use Rattle.report_text.specs.AskLine.{IsWellFormedAsk, ask_data, ask_at}
use Rattle.report_text.specs.Lines.{IsWellFormed}
use Rattle.report_fields.proofs.Plain.{IsPlain}
use Rattle.report_fields.proofs.FieldFacts.{items_depth-numbers, items_depth-lists, ArePlain-ids, ArePlain-lists, if_below-lt, each_of-ids, each_of-lists}
use Rattle.report_fields.proofs.FieldFacts.{below-id_at, All-ids_at, All-id_lists_at}

-- a well-formed candidate's JSON is plain
pub IsPlain-ask_data : (candidate : ℕ) (tuple : List ℕ) (causes : List (List ℕ)) (members : List ℕ) → IsWellFormedAsk candidate tuple causes members
    → IsPlain (ask_data candidate tuple causes members)
IsPlain-ask_data candidate tuple causes members h = (
  refl,
  (
    IsUtf8-are_ascii _ refl,
    omega (arith, h.candidate_fits),
    (
      IsUtf8-are_ascii _ refl,
      ArePlain-lists causes h.causes_fit,
      (
        IsUtf8-are_ascii _ refl,
        IsUtf8-are_ascii _ refl,
        (IsUtf8-are_ascii _ refl, ArePlain-ids members h.members_fit, (IsUtf8-are_ascii _ refl, ArePlain-ids tuple h.tuple_fits, tt)),
      ),
    ),
  ),
)

-- a candidate's JSON is shallow
pub depth-ask_data : (candidate : ℕ) (tuple : List ℕ) (causes : List (List ℕ)) (members : List ℕ) → depth (ask_data candidate tuple causes members) ≤ max_depth
depth-ask_data candidate tuple causes members = omega (arith, items_depth-lists causes, items_depth-numbers members, items_depth-numbers tuple)

-- a well-formed candidate's JSON gives back the candidate
pub ask_at-ask_data : (candidate : ℕ) (tuple : List ℕ) (causes : List (List ℕ)) (members : List ℕ) → IsWellFormedAsk candidate tuple causes members
    → ask_at (ask_data candidate tuple causes members) ≡ Some (line.Ask candidate tuple causes members)
ask_at-ask_data candidate tuple causes members h =
    rw (if_below-lt (2 ^ 32) candidate h.candidate_fits, each_of-ids tuple h.tuple_fits, each_of-lists causes h.causes_fit, each_of-ids members h.members_fit)
    refl

-- a candidate that is found is well formed
pub IsWellFormed-ask_at : (d : Data) (found : Line) → ask_at d ≡ Some found → IsWellFormed found
IsWellFormed-ask_at d found e =
    option_and_then_some _ (id_at (codes "candidate") d) found e (λ candidate candidate_is e.
    option_and_then_some _ (ids_at (codes "tuple") d) found e (λ tuple tuple_is e.
    option_and_then_some _ (id_lists_at (codes "causes") d) found e (λ causes causes_is e.
    option_and_then_some _ (ids_at (codes "members") d) found e (λ members members_is e.
    let same : line.Ask candidate tuple causes members ≡ found = cc e in
    rw (← same) (record {
      candidate_fits = below-id_at (codes "candidate") d candidate candidate_is;
      tuple_fits = All-ids_at (codes "tuple") d tuple tuple_is;
      causes_fit = All-id_lists_at (codes "causes") d causes causes_is;
      members_fit = All-ids_at (codes "members") d members members_is;
    })))))
