-- Ends: their JSON is plain and reads back as them, and what is read is right.
use Rattle.std.proofs.Common.{◌≡◌, ℕ, ◌≤◌, ◌^◌, Some, codes, refl, arith}
use Rattle.std.proofs.lemmas.Option.{option_and_then_some}
use Rattle.json.proofs.Printed.Utf8.{IsUtf8-are_ascii}
use Rattle.serde_json.specs.Data.{Data, depth}
use Rattle.serde_json.specs.Read.{max_depth}
use Rattle.report_text.specs.declared.line.Line.{Line}
use Rattle.report_text.specs.declared.line.Line.TheVariants as line
use Rattle.report_fields.specs.Fields.{long_at}
use Rattle.report_text.specs.EndLine.{IsWellFormedEnd, end_data, end_at}
use Rattle.report_text.specs.Lines.{IsWellFormed}
use Rattle.report_fields.proofs.Plain.{IsPlain}
use Rattle.report_fields.proofs.FieldFacts.{if_below-lt, below-long_at}

-- a well-formed end's JSON is plain
pub IsPlain-end_data : (answers brave ar iar undecided : ℕ) → IsWellFormedEnd answers brave ar iar undecided → IsPlain (end_data answers brave ar iar undecided)
IsPlain-end_data answers brave ar iar undecided h = (
  refl,
  (
    IsUtf8-are_ascii _ refl,
    h.answers_fit,
    (
      IsUtf8-are_ascii _ refl,
      h.ar_fits,
      (
        IsUtf8-are_ascii _ refl,
        h.brave_fits,
        (IsUtf8-are_ascii _ refl, h.iar_fits, (IsUtf8-are_ascii _ refl, IsUtf8-are_ascii _ refl, (IsUtf8-are_ascii _ refl, h.undecided_fits, tt))),
      ),
    ),
  ),
)

-- an end's JSON is shallow
pub depth-end_data : (answers brave ar iar undecided : ℕ) → depth (end_data answers brave ar iar undecided) ≤ max_depth
depth-end_data answers brave ar iar undecided = omega arith

-- a well-formed end's JSON gives back the end
pub end_at-end_data : (answers brave ar iar undecided : ℕ) → IsWellFormedEnd answers brave ar iar undecided
    → end_at (end_data answers brave ar iar undecided) ≡ Some (line.End answers brave ar iar undecided)
end_at-end_data answers brave ar iar undecided h =
    rw (
      if_below-lt (2 ^ 64) answers h.answers_fit,
      if_below-lt (2 ^ 64) brave h.brave_fits,
      if_below-lt (2 ^ 64) ar h.ar_fits,
      if_below-lt (2 ^ 64) iar h.iar_fits,
      if_below-lt (2 ^ 64) undecided h.undecided_fits,
    ) refl

-- an end that is found is well formed
pub IsWellFormed-end_at : (d : Data) (found : Line) → end_at d ≡ Some found → IsWellFormed found
IsWellFormed-end_at d found e =
    option_and_then_some _ (long_at (codes "answers") d) found e (λ answers answers_is e.
    option_and_then_some _ (long_at (codes "brave") d) found e (λ brave brave_is e.
    option_and_then_some _ (long_at (codes "ar") d) found e (λ ar ar_is e.
    option_and_then_some _ (long_at (codes "iar") d) found e (λ iar iar_is e.
    option_and_then_some _ (long_at (codes "undecided") d) found e (λ undecided undecided_is e.
    let same : line.End answers brave ar iar undecided ≡ found = cc e in
    rw (← same) (record {
      answers_fit = below-long_at (codes "answers") d answers answers_is;
      brave_fits = below-long_at (codes "brave") d brave brave_is;
      ar_fits = below-long_at (codes "ar") d ar ar_is;
      iar_fits = below-long_at (codes "iar") d iar iar_is;
      undecided_fits = below-long_at (codes "undecided") d undecided undecided_is;
    }))))))
