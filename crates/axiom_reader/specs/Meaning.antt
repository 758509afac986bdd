-- What a reader of an ontology makes of its text: the axioms by number, or a refusal.
use Rattle.std.specs.Prelude.{◌≡◌, ℕ, Bool, List, [], ◌∷◌, slice_get, Some, if◌then◌else◌}
use Rattle.cq_terms.specs.declared.axioms.Axiom.{Axiom}
use Rattle.cq_terms.specs.declared.axioms.Axiom.TheVariants as axiom_kind
use Rattle.cq_terms.specs.declared.axioms.Basic.{Basic}
use Rattle.cq_terms.specs.declared.axioms.Basic.TheVariants as basic
use Rattle.cq_terms.specs.declared.axioms.Role.{Role}
use Rattle.cq_terms.specs.declared.names.Vocab.{Vocab}
use Rattle.axiom_reader.specs.declared.refusal.AxiomRefusal.{AxiomRefusal}
use Rattle.axiom_reader.specs.declared.refusal.AxiomRefusal.TheVariants as refusal
use Rattle.axiom_reader.specs.Axioms.{NamedRole, NamedBasic, NamedAxiom, concept, has, concepts, roles}
use Rattle.axiom_reader.specs.Numbering.{with_axioms}
use Rattle.axiom_reader.specs.Reading.{ComesTo, reads, refuses, line_not_utf8, bad_line, too_many}

-- the role is the named one, by the place of its name
pub record IsRoleOf (vocab : Vocab) (named : NamedRole) (given : Role) : Type 0 where
  pub number : slice_get vocab.roles given.pred ≡ Some named.name
  pub inverse : given.inverse ≡ named.inverse

-- the basic concept is the named one, by the place of its name
abbrev pub IsBasicOf : Vocab → NamedBasic → Basic → Type 0
IsBasicOf vocab (concept name) given =
    (number : ℕ) × (slice_get vocab.concepts number ≡ Some name) × (given ≡ basic.Concept number)
IsBasicOf vocab (has named) given = (role : Role) × IsRoleOf vocab named role × (given ≡ basic.Has role)

-- the axiom of two basic concepts
abbrev pub concept_axiom : Basic → Bool → Basic → Axiom
concept_axiom left negated right = if negated then axiom_kind.Disjoint left right else axiom_kind.Sub left right

-- the axiom of two roles
abbrev pub role_axiom : Role → Bool → Role → Axiom
role_axiom left negated right = if negated then axiom_kind.DisjointRole left right else axiom_kind.SubRole left right

-- the axiom is the named one, by the places of its names
abbrev pub IsAxiomOf : Vocab → NamedAxiom → Axiom → Type 0
IsAxiomOf vocab (concepts left negated right) given =
    (l : Basic) × (r : Basic) × IsBasicOf vocab left l × IsBasicOf vocab right r × (given ≡ concept_axiom l negated r)
IsAxiomOf vocab (roles left negated right) given =
    (l : Role) × (r : Role) × IsRoleOf vocab left l × IsRoleOf vocab right r × (given ≡ role_axiom l negated r)

-- each axiom is the named one at its place
abbrev pub AreAxiomsOf : Vocab → List NamedAxiom → List Axiom → Type 0
AreAxiomsOf vocab [] [] = Unit {0}
AreAxiomsOf vocab (named ∷ names) (given ∷ axioms) = IsAxiomOf vocab named given × AreAxiomsOf vocab names axioms
AreAxiomsOf vocab names axioms = ⊥

-- the text comes to named axioms whose names were put after the old ones, and these are the axioms by number
pub record Reads (bytes : List ℕ) (old new : Vocab) (axioms : List Axiom) : Type 0 where
  pub named : List NamedAxiom
  pub text : ComesTo bytes (reads named)
  pub names : new ≡ with_axioms old named
  pub meaning : AreAxiomsOf new named axioms

-- the text comes to the fault of the refusal; nothing is said where memory ran out
abbrev pub IsRefused : List ℕ → AxiomRefusal → Type 0
IsRefused bytes (refusal.NotUtf8 line) = ComesTo bytes (refuses line_not_utf8 line)
IsRefused bytes (refusal.BadLine line) = ComesTo bytes (refuses bad_line line)
IsRefused bytes refusal.TooMany = (line : ℕ) × ComesTo bytes (refuses too_many line)
IsRefused bytes refusal.NoMemory = Unit {0}
