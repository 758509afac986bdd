-- The line that opens a report: `{"axioms":N,"budget":N,"facts":N,"k":"head","keep":N,"repairs":"all" or "pareto","version":N}`.
use Rattle.std.specs.Prelude.{◌≡◌, ◌==◌, ℕ, ◌<◌, ◌^◌, List, [], ◌∷◌, Bool, true, Option, Some, None, option_and_then, if◌then◌else◌, codes}
use Rattle.std.specs.List.{list_any}
use Rattle.std.specs.Str.{bytes_eq}
use Rattle.serde_json.specs.Data.{Data, string, object, no_members, member}
use Rattle.cq_terms.specs.declared.facts.Repairs.{Repairs}
use Rattle.cq_terms.specs.declared.facts.Repairs.TheVariants.{All, Pareto}
use Rattle.report_text.specs.declared.line.Line.{Line}
use Rattle.report_text.specs.declared.line.Line.TheVariants as line
use Rattle.report_fields.specs.Fields.{number_data, id_at, long_at, word_at}

-- the versions that are known
abbrev pub known_versions : List ℕ
known_versions = 1 ∷ []

-- whether a version is known
abbrev pub is_known_version : ℕ → Bool
is_known_version version = list_any (λ known. known == version) known_versions

-- a head is well formed: each number is in its range, and the version is known
pub record IsWellFormedHead (axioms budget facts keep version : ℕ) : Type 0 where
  pub axioms_fit : axioms < 2 ^ 32
  pub budget_fits : budget < 2 ^ 64
  pub facts_fit : facts < 2 ^ 32
  pub keep_fits : keep < 2 ^ 64
  pub version_known : is_known_version version ≡ true

-- the word for the repairs that are chosen
abbrev pub repairs_word : Repairs → List ℕ
repairs_word All = codes "all"
repairs_word Pareto = codes "pareto"

-- the head as JSON
abbrev pub head_data : ℕ → ℕ → ℕ → ℕ → Repairs → ℕ → Data
head_data axioms budget facts keep repairs version = object
    (member (codes "axioms") (number_data axioms)
    (member (codes "budget") (number_data budget)
    (member (codes "facts") (number_data facts)
    (member (codes "k") (string (codes "head"))
    (member (codes "keep") (number_data keep)
    (member (codes "repairs") (string (repairs_word repairs))
    (member (codes "version") (number_data version) no_members)))))))

-- READ

-- the repairs that the word stands for
abbrev pub repairs_of : List ℕ → Option Repairs
repairs_of word = if bytes_eq word (codes "all") then Some All else if bytes_eq word (codes "pareto") then Some Pareto else None

-- the version, where it is known
abbrev pub if_known : ℕ → Option ℕ
if_known version = if is_known_version version then Some version else None

-- the head whose fields the value has
abbrev pub head_at : Data → Option Line
head_at d =
    option_and_then (λ axioms.
    option_and_then (λ budget.
    option_and_then (λ facts.
    option_and_then (λ keep.
    option_and_then (λ repairs.
    option_and_then (λ version.
    Some (line.Head axioms budget facts keep repairs version))
    (option_and_then if_known (id_at (codes "version") d)))
    (option_and_then repairs_of (word_at (codes "repairs") d)))
    (long_at (codes "keep") d))
    (id_at (codes "facts") d))
    (long_at (codes "budget") d))
    (id_at (codes "axioms") d)
