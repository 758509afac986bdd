-- Learned clauses: their JSON is plain and reads back as them, and what is read is right.
use Rattle.std.proofs.Common.{◌≡◌, ℕ, ◌≤◌, ◌^◌, List, Some, codes, refl, arith}
use Rattle.std.proofs.lemmas.Option.{option_and_then_some}
use Rattle.json.proofs.Printed.Utf8.{IsUtf8-are_ascii}
use Rattle.serde_json.specs.Data.{Data, depth}
use Rattle.serde_json.specs.Read.{max_depth}
use Rattle.report_text.specs.declared.line.Line.{Line}
use Rattle.report_text.specs.declared.line.Line.TheVariants as line
use Rattle.report_fields.specs.Fields.{long_at, ids_at}
use Rattle.report_text.specs.LearnLine.{IsWellFormedLearn, learn_data, learn_at}
use Rattle.report_text.specs.Lines.{IsWellFormed}
use Rattle.report_fields.proofs.Plain.{IsPlain}
use Rattle.report_fields.proofs.FieldFacts.{items_depth-numbers, ArePlain-ids, if_below-lt, each_of-ids, below-long_at, All-ids_at}

-- a well-formed learned clause's JSON is plain
pub IsPlain-learn_data : (number : ℕ) (clause : List ℕ) → IsWellFormedLearn number clause → IsPlain (learn_data number clause)
IsPlain-learn_data number clause h = (
  refl,
  (
    IsUtf8-are_ascii _ refl,
    ArePlain-ids clause h.clause_fits,
    (IsUtf8-are_ascii _ refl, IsUtf8-are_ascii _ refl, (IsUtf8-are_ascii _ refl, h.number_fits, tt)),
  ),
)

-- a learned clause's JSON is shallow
pub depth-learn_data : (number : ℕ) (clause : List ℕ) → depth (learn_data number clause) ≤ max_depth
depth-learn_data number clause = omega (arith, items_depth-numbers clause)

-- a well-formed learned clause's JSON gives back the clause
pub learn_at-learn_data : (number : ℕ) (clause : List ℕ) → IsWellFormedLearn number clause
    → learn_at (learn_data number clause) ≡ Some (line.Learn number clause)
learn_at-learn_data number clause h = rw (if_below-lt (2 ^ 64) number h.number_fits, each_of-ids clause h.clause_fits) refl

-- a learned clause that is found is well formed
pub IsWellFormed-learn_at : (d : Data) (found : Line) → learn_at d ≡ Some found → IsWellFormed found
IsWellFormed-learn_at d found e =
    option_and_then_some _ (long_at (codes "n") d) found e (λ number number_is e.
    option_and_then_some _ (ids_at (codes "clause") d) found e (λ clause clause_is e.
    let same : line.Learn number clause ≡ found = cc e in
    rw (← same) (record {
      number_fits = below-long_at (codes "n") d number number_is;
      clause_fits = All-ids_at (codes "clause") d clause clause_is;
    })))
