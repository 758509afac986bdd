-- Cores: their JSON is plain and reads back as them, and what is read is right.
use Rattle.std.proofs.Common.{◌≡◌, ℕ, ◌≤◌, ◌^◌, List, Some, codes, refl, arith}
use Rattle.std.proofs.lemmas.Option.{option_and_then_some}
use Rattle.json.proofs.Printed.Utf8.{IsUtf8-are_ascii}
use Rattle.serde_json.specs.Data.{Data, depth}
use Rattle.serde_json.specs.Read.{max_depth}
use Rattle.report_text.specs.declared.line.Line.{Line}
use Rattle.report_text.specs.declared.line.Line.TheVariants as line
use Rattle.report_fields.specs.Fields.{long_at, ids_at}
use Rattle.report_text.specs.CoreLine.{IsWellFormedCore, core_data, core_at}
use Rattle.report_text.specs.Lines.{IsWellFormed}
use Rattle.report_fields.proofs.Plain.{IsPlain}
use Rattle.report_fields.proofs.FieldFacts.{items_depth-numbers, ArePlain-ids, if_below-lt, each_of-ids, below-long_at, All-ids_at}

-- a well-formed core's JSON is plain
pub IsPlain-core_data : (number : ℕ) (kept dropped : List ℕ) → IsWellFormedCore number kept dropped → IsPlain (core_data number kept dropped)
IsPlain-core_data number kept dropped h = (
  refl,
  (
    IsUtf8-are_ascii _ refl,
    ArePlain-ids dropped h.dropped_fit,
    (IsUtf8-are_ascii _ refl, IsUtf8-are_ascii _ refl, (IsUtf8-are_ascii _ refl, ArePlain-ids kept h.kept_fit, (IsUtf8-are_ascii _ refl, h.number_fits, tt))),
  ),
)

-- a core's JSON is shallow
pub depth-core_data : (number : ℕ) (kept dropped : List ℕ) → depth (core_data number kept dropped) ≤ max_depth
depth-core_data number kept dropped = omega (arith, items_depth-numbers dropped, items_depth-numbers kept)

-- a well-formed core's JSON gives back the core
pub core_at-core_data : (number : ℕ) (kept dropped : List ℕ) → IsWellFormedCore number kept dropped
    → core_at (core_data number kept dropped) ≡ Some (line.Core number kept dropped)
core_at-core_data number kept dropped h = rw (if_below-lt (2 ^ 64) number h.number_fits, each_of-ids kept h.kept_fit, each_of-ids dropped h.dropped_fit) refl

-- a core that is found is well formed
pub IsWellFormed-core_at : (d : Data) (found : Line) → core_at d ≡ Some found → IsWellFormed found
IsWellFormed-core_at d found e =
    option_and_then_some _ (long_at (codes "n") d) found e (λ number number_is e.
    option_and_then_some _ (ids_at (codes "kept") d) found e (λ kept kept_is e.
    option_and_then_some _ (ids_at (codes "dropped") d) found e (λ dropped dropped_is e.
    let same : line.Core number kept dropped ≡ found = cc e in
    rw (← same) (record {
      number_fits = below-long_at (codes "n") d number number_is;
      kept_fit = All-ids_at (codes "kept") d kept kept_is;
      dropped_fit = All-ids_at (codes "dropped") d dropped dropped_is;
    }))))
