-- Forgotten clauses: their JSON is plain and reads back as them, and what is read is right.
use Rattle.std.proofs.Common.{◌≡◌, ℕ, ◌≤◌, List, Some, codes, refl, arith}
use Rattle.std.proofs.lemmas.Option.{option_and_then_some}
use Rattle.json.proofs.Printed.Utf8.{IsUtf8-are_ascii}
use Rattle.serde_json.specs.Data.{Data, depth}
use Rattle.serde_json.specs.Read.{max_depth}
use Rattle.report_text.specs.declared.line.Line.{Line}
use Rattle.report_text.specs.declared.line.Line.TheVariants as line
use Rattle.report_fields.specs.Fields.{longs_at}
use Rattle.report_text.specs.ForgetLine.{IsWellFormedForget, forget_data, forget_at}
use Rattle.report_text.specs.Lines.{IsWellFormed}
use Rattle.report_fields.proofs.Plain.{IsPlain}
use Rattle.report_fields.proofs.FieldFacts.{items_depth-numbers, ArePlain-longs, each_of-longs, All-longs_at}

-- well-formed forgotten clauses' JSON is plain
pub IsPlain-forget_data : (clauses : List ℕ) → IsWellFormedForget clauses → IsPlain (forget_data clauses)
IsPlain-forget_data clauses h = (refl, (IsUtf8-are_ascii _ refl, ArePlain-longs clauses h.clauses_fit, (IsUtf8-are_ascii _ refl, IsUtf8-are_ascii _ refl, tt)))

-- forgotten clauses' JSON is shallow
pub depth-forget_data : (clauses : List ℕ) → depth (forget_data clauses) ≤ max_depth
depth-forget_data clauses = omega (arith, items_depth-numbers clauses)

-- well-formed forgotten clauses' JSON gives back the clauses
pub forget_at-forget_data : (clauses : List ℕ) → IsWellFormedForget clauses → forget_at (forget_data clauses) ≡ Some (line.Forget clauses)
forget_at-forget_data clauses h = rw (each_of-longs clauses h.clauses_fit) refl

-- forgotten clauses that are found are well formed
pub IsWellFormed-forget_at : (d : Data) (found : Line) → forget_at d ≡ Some found → IsWellFormed found
IsWellFormed-forget_at d found e =
    option_and_then_some _ (longs_at (codes "clauses") d) found e (λ clauses clauses_is e.
    let same : line.Forget clauses ≡ found = cc e in
    rw (← same) (record { clauses_fit = All-longs_at (codes "clauses") d clauses clauses_is }))
