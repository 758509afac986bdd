-- Heads: their JSON is plain and reads back as them, and what is read is right.
use Rattle.std.proofs.Common.{◌≡◌, ℕ, ◌≤◌, ◌<◌, ◌^◌, Bool, true, false, Some, None, option_and_then, codes, refl, arith, IsUtf8}
use Rattle.std.specs.Prelude.{if◌then◌else◌}
use Rattle.std.proofs.lemmas.Bool.Decides.{nat_tests}
use Rattle.std.proofs.lemmas.Option.{option_and_then_some}
use Rattle.json.proofs.Printed.Utf8.{IsUtf8-are_ascii}
use Rattle.serde_json.specs.Data.{Data, depth}
use Rattle.serde_json.specs.Read.{max_depth}
use Rattle.cq_terms.specs.declared.facts.Repairs.{Repairs}
use Rattle.cq_terms.specs.declared.facts.Repairs.TheVariants.{All, Pareto}
use Rattle.report_text.specs.declared.line.Line.{Line}
use Rattle.report_text.specs.declared.line.Line.TheVariants as line
use Rattle.report_fields.specs.Fields.{id_at, long_at, word_at}
use Rattle.report_text.specs.HeadLine.{is_known_version, if_known, IsWellFormedHead, repairs_word, repairs_of, head_data, head_at}
use Rattle.report_text.specs.Lines.{IsWellFormed}
use Rattle.report_fields.proofs.Plain.{IsPlain}
use Rattle.report_fields.proofs.FieldFacts.{if_below-lt, below-id_at, below-long_at}

-- the word for repairs is UTF-8
IsUtf8-repairs_word : (repairs : Repairs) → IsUtf8 (repairs_word repairs)
IsUtf8-repairs_word All = IsUtf8-are_ascii _ refl
IsUtf8-repairs_word Pareto = IsUtf8-are_ascii _ refl

-- the word for repairs gives them back
repairs_of-word : (repairs : Repairs) → repairs_of (repairs_word repairs) ≡ Some repairs
repairs_of-word All = refl
repairs_of-word Pareto = refl

-- a known version passes
if_known-known : (version : ℕ) → is_known_version version ≡ true → if_known version ≡ Some version
if_known-known version h = rw h refl

-- a version that passes is known
known-if_known : (n version : ℕ) → if_known n ≡ Some version → is_known_version version ≡ true
known-if_known n version e = by (is_known_version n) refl e
  where
    by : (b : Bool) → is_known_version n ≡ b → (if b then Some n else None) ≡ Some version → is_known_version version ≡ true
    by true h e = let same : n ≡ version = cc e in rw (← same) h
    by false h e = cc e

-- the known versions are small
pub small_version : (version : ℕ) → is_known_version version ≡ true → version < 2 ^ 32
small_version version h = grind (arith, nat_tests)

-- a well-formed head's JSON is plain
pub IsPlain-head_data : (axioms budget facts keep : ℕ) (repairs : Repairs) (version : ℕ) → IsWellFormedHead axioms budget facts keep version
    → IsPlain (head_data axioms budget facts keep repairs version)
IsPlain-head_data axioms budget facts keep repairs version h = (
  refl,
  (
    IsUtf8-are_ascii _ refl,
    omega (arith, h.axioms_fit),
    (
      IsUtf8-are_ascii _ refl,
      h.budget_fits,
      (
        IsUtf8-are_ascii _ refl,
        omega (arith, h.facts_fit),
        (
          IsUtf8-are_ascii _ refl,
          IsUtf8-are_ascii _ refl,
          (
            IsUtf8-are_ascii _ refl,
            h.keep_fits,
            (
              IsUtf8-are_ascii _ refl,
              IsUtf8-repairs_word repairs,
              (IsUtf8-are_ascii _ refl, omega (arith, small_version version h.version_known), tt),
            ),
          ),
        ),
      ),
    ),
  ),
)

-- a head's JSON is shallow
pub depth-head_data : (axioms budget facts keep : ℕ) (repairs : Repairs) (version : ℕ) → depth (head_data axioms budget facts keep repairs version) ≤ max_depth
depth-head_data axioms budget facts keep repairs version = omega arith

-- a well-formed head's JSON gives back the head
pub head_at-head_data : (axioms budget facts keep : ℕ) (repairs : Repairs) (version : ℕ) → IsWellFormedHead axioms budget facts keep version
    → head_at (head_data axioms budget facts keep repairs version) ≡ Some (line.Head axioms budget facts keep repairs version)
head_at-head_data axioms budget facts keep repairs version h =
    rw (
      if_below-lt (2 ^ 32) axioms h.axioms_fit,
      if_below-lt (2 ^ 64) budget h.budget_fits,
      if_below-lt (2 ^ 32) facts h.facts_fit,
      if_below-lt (2 ^ 64) keep h.keep_fits,
      repairs_of-word repairs,
      if_below-lt (2 ^ 32) version (small_version version h.version_known),
      if_known-known version h.version_known,
    ) refl

-- a head that is found is well formed
pub IsWellFormed-head_at : (d : Data) (found : Line) → head_at d ≡ Some found → IsWellFormed found
IsWellFormed-head_at d found e =
    option_and_then_some _ (id_at (codes "axioms") d) found e (λ axioms axioms_is e.
    option_and_then_some _ (long_at (codes "budget") d) found e (λ budget budget_is e.
    option_and_then_some _ (id_at (codes "facts") d) found e (λ facts facts_is e.
    option_and_then_some _ (long_at (codes "keep") d) found e (λ keep keep_is e.
    option_and_then_some _ (option_and_then repairs_of (word_at (codes "repairs") d)) found e (λ repairs repairs_is e.
    option_and_then_some _ (option_and_then if_known (id_at (codes "version") d)) found e (λ version version_is e.
    option_and_then_some if_known (id_at (codes "version") d) version version_is (λ n n_is known.
    let same : line.Head axioms budget facts keep repairs version ≡ found = cc e in
    rw (← same) (record {
      axioms_fit = below-id_at (codes "axioms") d axioms axioms_is;
      budget_fits = below-long_at (codes "budget") d budget budget_is;
      facts_fit = below-id_at (codes "facts") d facts facts_is;
      keep_fits = below-long_at (codes "keep") d keep keep_is;
      version_known = known-if_known n version known;
    }))))))))
