-- Conflicts: their JSON is plain and reads back as them, and what is read is right.
use Rattle.std.proofs.Common.{◌≡◌, ℕ, ◌≤◌, ◌^◌, ◌⊎◌, inl, inr, Bool, true, false, List, length, Some, None, codes, refl, arith}
use Rattle.std.specs.Prelude.{◌==◌, ◌||◌, if◌then◌else◌}
use Rattle.std.proofs.lemmas.Bool.Decides.{Decides-eqb}
use Rattle.std.proofs.lemmas.Option.{option_and_then_some}
use Rattle.json.proofs.Printed.Utf8.{IsUtf8-are_ascii}
use Rattle.serde_json.specs.Data.{Data, depth}
use Rattle.serde_json.specs.Read.{max_depth}
use Rattle.report_text.specs.declared.line.Line.{Line}
use Rattle.report_text.specs.declared.line.Line.TheVariants as line
use Rattle.report_fields.specs.Fields.{id_at, ids_at}
use Rattle.report_text.specs.ConflictLine.{IsWellFormedConflict, is_one_or_two, conflict_data, conflict_at}
use Rattle.report_text.specs.Lines.{IsWellFormed}
use Rattle.report_fields.proofs.Plain.{IsPlain}
use Rattle.report_fields.proofs.FieldFacts.{items_depth-numbers, ArePlain-ids, if_below-lt, each_of-ids, below-id_at, All-ids_at}

-- one or two passes
is_one_or_two-true : (count : ℕ) → (count ≡ 1) ⊎ (count ≡ 2) → is_one_or_two count ≡ true
is_one_or_two-true count (inl e) = rw e refl
is_one_or_two-true count (inr e) = rw e refl

-- what passes is one or two
pub true-is_one_or_two : (count : ℕ) → is_one_or_two count ≡ true → (count ≡ 1) ⊎ (count ≡ 2)
true-is_one_or_two count h = by (count == 1) (Decides-eqb count 1).0 h
  where
    by : (b : Bool) → (b ≡ true → count ≡ 1) → (b || (count == 2)) ≡ true → (count ≡ 1) ⊎ (count ≡ 2)
    by true one h = inl (one refl)
    by false one h = inr ((Decides-eqb count 2).0 h)

-- a well-formed conflict's JSON is plain
pub IsPlain-conflict_data : (facts : List ℕ) (rule place : ℕ) → IsWellFormedConflict facts rule place → IsPlain (conflict_data facts rule place)
IsPlain-conflict_data facts rule place h = (
  refl,
  (
    IsUtf8-are_ascii _ refl,
    ArePlain-ids facts h.facts_fit,
    (
      IsUtf8-are_ascii _ refl,
      IsUtf8-are_ascii _ refl,
      (
        IsUtf8-are_ascii _ refl,
        omega (arith, h.place_fits),
        (IsUtf8-are_ascii _ refl, omega (arith, h.rule_fits), tt),
      ),
    ),
  ),
)

-- a conflict's JSON is shallow
pub depth-conflict_data : (facts : List ℕ) (rule place : ℕ) → depth (conflict_data facts rule place) ≤ max_depth
depth-conflict_data facts rule place = omega (arith, items_depth-numbers facts)

-- a well-formed conflict's JSON gives back the conflict
pub conflict_at-conflict_data : (facts : List ℕ) (rule place : ℕ) → IsWellFormedConflict facts rule place
    → conflict_at (conflict_data facts rule place) ≡ Some (line.Conflict facts rule place)
conflict_at-conflict_data facts rule place h =
    rw (
      if_below-lt (2 ^ 32) rule h.rule_fits,
      if_below-lt (2 ^ 32) place h.place_fits,
      each_of-ids facts h.facts_fit,
      is_one_or_two-true (length facts) h.one_or_two,
    ) refl

-- a conflict that is found is well formed
pub IsWellFormed-conflict_at : (d : Data) (found : Line) → conflict_at d ≡ Some found → IsWellFormed found
IsWellFormed-conflict_at d found e =
    option_and_then_some _ (id_at (codes "of") d) found e (λ rule rule_is e.
    option_and_then_some _ (id_at (codes "member") d) found e (λ place place_is e.
    option_and_then_some _ (ids_at (codes "facts") d) found e (λ facts facts_is e.
    by rule rule_is place place_is facts facts_is (is_one_or_two (length facts)) refl e)))
  where
    by : (rule : ℕ) → id_at (codes "of") d ≡ Some rule → (place : ℕ) → id_at (codes "member") d ≡ Some place → (facts : List ℕ)
        → ids_at (codes "facts") d ≡ Some facts
        → (b : Bool) → is_one_or_two (length facts) ≡ b → (if b then Some (line.Conflict facts rule place) else None) ≡ Some found → IsWellFormed found
    by rule rule_is place place_is facts facts_is true h e =
        let same : line.Conflict facts rule place ≡ found = cc e in
        rw (← same) (record {
          one_or_two = true-is_one_or_two (length facts) h;
          facts_fit = All-ids_at (codes "facts") d facts facts_is;
          rule_fits = below-id_at (codes "of") d rule rule_is;
          place_fits = below-id_at (codes "member") d place place_is;
        })
    by rule rule_is place place_is facts facts_is false h e = cc e
