-- Ends of tries: their JSON is plain and reads back as them, and what is read is right.
use Rattle.std.proofs.Common.{◌≡◌, ℕ, ◌≤◌, ◌↔◌, Bool, true, false, Option, Some, None, IsSome, codes, refl, arith, IsUtf8}
use Rattle.std.specs.Prelude.{if◌then◌else◌}
use Rattle.std.proofs.lemmas.Option.{option_and_then_some}
use Rattle.json.proofs.Printed.Utf8.{IsUtf8-are_ascii}
use Rattle.serde_json.specs.Data.{Data, depth}
use Rattle.serde_json.specs.Read.{max_depth}
use Rattle.report_text.specs.declared.line.Line.{Line}
use Rattle.report_text.specs.declared.line.Line.TheVariants as line
use Rattle.report_text.specs.declared.line.How.{How}
use Rattle.report_text.specs.declared.line.How.TheVariants.{Model, Refuted, Spent}
use Rattle.report_fields.specs.Fields.{long_or_null_at}
use Rattle.report_text.specs.DoneLine.{IsWellFormedDone, how_word, how_of, how_at, has_its_core, done_data, done_at}
use Rattle.report_text.specs.Lines.{IsWellFormed}
use Rattle.report_fields.proofs.Plain.{IsPlain}
use Rattle.report_fields.proofs.FieldFacts.{depth-long_or_null, IsPlain-long_or_null, long_or_null-data, below-long_or_null_at}

-- the word for how a try ended is UTF-8
IsUtf8-how_word : (how : How) → IsUtf8 (how_word how)
IsUtf8-how_word Model = IsUtf8-are_ascii _ refl
IsUtf8-how_word Refuted = IsUtf8-are_ascii _ refl
IsUtf8-how_word Spent = IsUtf8-are_ascii _ refl

-- and gives it back
how_of-word : (how : How) → how_of (how_word how) ≡ Some how
how_of-word Model = refl
how_of-word Refuted = refl
how_of-word Spent = refl

-- a core exactly for a model passes
has_its_core-true : (how : How) (core : Option ℕ) → (IsSome core ↔ (how ≡ Model)) → has_its_core how core ≡ true
has_its_core-true Model (Some n) h = refl
has_its_core-true Model None h = let some = h.1 refl in cc some
has_its_core-true Refuted (Some n) h = let model = h.0 refl in cc model
has_its_core-true Refuted None h = refl
has_its_core-true Spent (Some n) h = let model = h.0 refl in cc model
has_its_core-true Spent None h = refl

-- what passes has a core exactly for a model
pub true-has_its_core : (how : How) (core : Option ℕ) → has_its_core how core ≡ true → IsSome core ↔ (how ≡ Model)
true-has_its_core Model (Some n) h = ((λ _. refl), (λ _. refl))
true-has_its_core Model None h = cc h
true-has_its_core Refuted (Some n) h = cc h
true-has_its_core Refuted None h = ((λ some. cc some), (λ model. cc model))
true-has_its_core Spent (Some n) h = cc h
true-has_its_core Spent None h = ((λ some. cc some), (λ model. cc model))

-- a well-formed end of a try has plain JSON
pub IsPlain-done_data : (how : How) (core : Option ℕ) → IsWellFormedDone how core → IsPlain (done_data how core)
IsPlain-done_data how core h = (
  refl,
  (
    IsUtf8-are_ascii _ refl,
    IsPlain-long_or_null core h.core_fits,
    (IsUtf8-are_ascii _ refl, IsUtf8-how_word how, (IsUtf8-are_ascii _ refl, IsUtf8-are_ascii _ refl, tt)),
  ),
)

-- the JSON of an end of a try is shallow
pub depth-done_data : (how : How) (core : Option ℕ) → depth (done_data how core) ≤ max_depth
depth-done_data how core = omega (arith, depth-long_or_null core)

-- the JSON of a well-formed end of a try gives it back
pub done_at-done_data : (how : How) (core : Option ℕ) → IsWellFormedDone how core → done_at (done_data how core) ≡ Some (line.Done how core)
done_at-done_data how core h = rw (how_of-word how, long_or_null-data core h.core_fits, has_its_core-true how core h.core_of_model) refl

-- an end of a try that is found is well formed
pub IsWellFormed-done_at : (d : Data) (found : Line) → done_at d ≡ Some found → IsWellFormed found
IsWellFormed-done_at d found e =
    option_and_then_some _ (how_at d) found e (λ how how_is e.
    option_and_then_some _ (long_or_null_at (codes "core") d) found e (λ core core_is e.
    by how core core_is (has_its_core how core) refl e))
  where
    by : (how : How) (core : Option ℕ) → long_or_null_at (codes "core") d ≡ Some core → (b : Bool) → has_its_core how core ≡ b
        → (if b then Some (line.Done how core) else None) ≡ Some found
        → IsWellFormed found
    by how core core_is true h e =
        let same : line.Done how core ≡ found = cc e in
        rw (← same) (record { core_of_model = true-has_its_core how core h; core_fits = below-long_or_null_at (codes "core") d core core_is })
    by how core core_is false h e = cc e
