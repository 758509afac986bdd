-- How the names of axioms are numbered: each is put at the end of its list where it is new.
use Rattle.std.specs.Prelude.{◌≡◌, ℕ, ◌+◌, ◌≤◌, ◌<◌, ◌^◌, false, List, [], ◌∷◌, ◌++◌, length, Some}
use Rattle.std.specs.List.{list_any, flat_map}
use Rattle.std.specs.Str.{bytes_eq}
use Rattle.cq_terms.specs.Names.{with_text, place_of}
use Rattle.cq_terms.specs.declared.names.Vocab.{Vocab}
use Rattle.axiom_reader.specs.Axioms.{NamedBasic, NamedAxiom, concept, has, concepts, roles}

-- the bytes and the longest list of the vocabulary have fewer than 2^31 items together
pub record HasRoom (bytes : List ℕ) (vocab : Vocab) : Type 0 where
  pub concepts : length bytes + length vocab.concepts < 2 ^ 31
  pub roles : length bytes + length vocab.roles < 2 ^ 31
  pub inds : length bytes + length vocab.inds < 2 ^ 31

-- the new list is the old one, and maybe more at its end
abbrev pub IsPrefix : List (List ℕ) → List (List ℕ) → Type 0
IsPrefix old new = (more : List (List ℕ)) × (new ≡ old ++ more)

-- the concept names and the role names of before stay at their places
pub record Keeps (old new : Vocab) : Type 0 where
  pub concepts : IsPrefix old.concepts new.concepts
  pub roles : IsPrefix old.roles new.roles

-- each of the two lists has gained at most so many names
pub record Grows (count : ℕ) (old new : Vocab) : Type 0 where
  pub concepts : length new.concepts ≤ length old.concepts + count
  pub roles : length new.roles ≤ length old.roles + count

-- the concept names of a basic concept
abbrev pub basic_concepts : NamedBasic → List (List ℕ)
basic_concepts (concept name) = name ∷ []
basic_concepts (has role) = []

-- the role names of a basic concept
abbrev pub basic_roles : NamedBasic → List (List ℕ)
basic_roles (concept name) = []
basic_roles (has role) = role.name ∷ []

-- the concept names of an axiom, from left to right
abbrev pub axiom_concepts : NamedAxiom → List (List ℕ)
axiom_concepts (concepts left negated right) = basic_concepts left ++ basic_concepts right
axiom_concepts (roles left negated right) = []

-- the role names of an axiom, from left to right
abbrev pub axiom_roles : NamedAxiom → List (List ℕ)
axiom_roles (concepts left negated right) = basic_roles left ++ basic_roles right
axiom_roles (roles left negated right) = left.name ∷ right.name ∷ []

-- the texts after others were put, in order
abbrev pub with_texts : List (List ℕ) → List (List ℕ) → List (List ℕ)
with_texts texts [] = texts
with_texts texts (text ∷ more) = with_texts (with_text texts text) more

-- the vocabulary after these concept names and role names were put
abbrev pub with_names : Vocab → List (List ℕ) → List (List ℕ) → Vocab
with_names vocab concept_names role_names =
    record vocab { concepts = with_texts vocab.concepts concept_names; roles = with_texts vocab.roles role_names }

-- the vocabulary after the names of a basic concept were put
abbrev pub with_basic : Vocab → NamedBasic → Vocab
with_basic vocab named = with_names vocab (basic_concepts named) (basic_roles named)

-- the vocabulary after the names of an axiom were put
abbrev pub with_axiom : Vocab → NamedAxiom → Vocab
with_axiom vocab named = with_names vocab (axiom_concepts named) (axiom_roles named)

-- the vocabulary after the names of all axioms were put, in order
abbrev pub with_axioms : Vocab → List NamedAxiom → Vocab
with_axioms vocab axioms = with_names vocab (flat_map axiom_concepts axioms) (flat_map axiom_roles axioms)

-- a name that stands neither in the old texts nor before gets the next number, whatever comes after it
abbrev pub NumbersByFirstAppearance : Type 0
NumbersByFirstAppearance =
    (texts before after : List (List ℕ)) (name : List ℕ) → list_any (bytes_eq name) (texts ++ before) ≡ false
    → place_of (with_texts texts (before ++ name ∷ after)) name ≡ Some (length (with_texts texts before))

-- a name that has a number keeps it
abbrev pub KeepsNumbers : Type 0
KeepsNumbers =
    (texts more : List (List ℕ)) (name : List ℕ) (number : ℕ) → place_of texts name ≡ Some number
    → place_of (with_texts texts more) name ≡ Some number
