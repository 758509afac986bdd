-- How names become numbers: each by its first appearance.
use Rattle.std.specs.Prelude.{◌≡◌, ℕ, ◌+◌, ◌<◌, ◌≤◌, List, [], ◌∷◌, length, slice_get, Some}
use Rattle.cq_terms.specs.Names.{with_text}
use Rattle.cq_terms.specs.declared.names.Vocab.{Vocab}
use Rattle.cq_terms.specs.declared.query.Term.{Term}
use Rattle.cq_terms.specs.declared.query.Term.TheVariants as term
use Rattle.cq_terms.specs.declared.query.QAtom.{QAtom}
use Rattle.cq_terms.specs.declared.query.QAtom.TheVariants as atom
use Rattle.axiom_reader.specs.Numbering.{IsPrefix}
use Rattle.query_reader.specs.Grammar.{NamedTerm, variable_term, constant_term, NamedAtom, concept_atom, role_atom, NamedQuery}

-- the lists of names, in which the number of each is its place
pub record Numbers : Type 0 where
  pub variables : List (List ℕ)
  pub concepts : List (List ℕ)
  pub roles : List (List ℕ)
  pub inds : List (List ℕ)

-- the lists of a vocabulary, beside those variables
abbrev pub numbers_of : List (List ℕ) → Vocab → Numbers
numbers_of variables vocab = record { variables = variables; concepts = vocab.concepts; roles = vocab.roles; inds = vocab.inds }

-- the texts after others were put, in order
abbrev pub with_texts : List (List ℕ) → List (List ℕ) → List (List ℕ)
with_texts texts [] = texts
with_texts texts (text ∷ others) = with_texts (with_text texts text) others

-- the lists after the name of a term was put
abbrev pub with_term : Numbers → NamedTerm → Numbers
with_term numbers (variable_term letters) = record numbers { variables = with_text numbers.variables letters }
with_term numbers (constant_term text) = record numbers { inds = with_text numbers.inds text }

-- the lists after the names of an atom were put, from left to right
abbrev pub with_atom : Numbers → NamedAtom → Numbers
with_atom numbers (concept_atom concept at) =
    with_term (record numbers { concepts = with_text numbers.concepts concept }) at
with_atom numbers (role_atom role from to) =
    with_term (with_term (record numbers { roles = with_text numbers.roles role }) from) to

-- the lists after the names of all atoms were put
abbrev pub with_atoms : Numbers → List NamedAtom → Numbers
with_atoms numbers [] = numbers
with_atoms numbers (named ∷ atoms) = with_atoms (with_atom numbers named) atoms

-- the lists after the names of a query were put, where there was no variable before
abbrev pub with_query : Vocab → NamedQuery → Numbers
with_query vocab query = with_atoms (numbers_of (with_texts [] query.head) vocab) query.body

-- the term is numbered by the place of its name
abbrev pub IsTermOf : Numbers → NamedTerm → Term → Type 0
IsTermOf numbers (variable_term letters) (term.Var number) = slice_get numbers.variables number ≡ Some letters
IsTermOf numbers (constant_term text) (term.Ind number) = slice_get numbers.inds number ≡ Some text
IsTermOf numbers named given = ⊥

-- the atom is numbered by the places of its names
abbrev pub IsAtomOf : Numbers → NamedAtom → QAtom → Type 0
IsAtomOf numbers (concept_atom concept named) (atom.Concept pred at) =
    (slice_get numbers.concepts pred ≡ Some concept) × IsTermOf numbers named at
IsAtomOf numbers (role_atom role first second) (atom.Link pred from to) =
    (slice_get numbers.roles pred ≡ Some role) × IsTermOf numbers first from × IsTermOf numbers second to
IsAtomOf numbers named given = ⊥

-- each head term is the variable at its place, by its number
abbrev pub AreHeadOf : List (List ℕ) → List (List ℕ) → List Term → Type 0
AreHeadOf variables [] [] = Unit {0}
AreHeadOf variables (letters ∷ named) (term.Var number ∷ terms) =
    (slice_get variables number ≡ Some letters) × AreHeadOf variables named terms
AreHeadOf variables named terms = ⊥

-- each atom is that over names at its place
abbrev pub AreAtomsOf : Numbers → List NamedAtom → List QAtom → Type 0
AreAtomsOf numbers [] [] = Unit {0}
AreAtomsOf numbers (named ∷ more) (given ∷ atoms) = IsAtomOf numbers named given × AreAtomsOf numbers more atoms
AreAtomsOf numbers named atoms = ⊥

-- the old texts of each list are a prefix of the new ones
pub record KeepsNumbers (old new : Numbers) : Type 0 where
  pub variables : IsPrefix old.variables new.variables
  pub concepts : IsPrefix old.concepts new.concepts
  pub roles : IsPrefix old.roles new.roles
  pub inds : IsPrefix old.inds new.inds

-- each list has at most so many new texts
pub record AddsAtMost (most : ℕ) (old new : Numbers) : Type 0 where
  pub variables : length new.variables ≤ length old.variables + most
  pub concepts : length new.concepts ≤ length old.concepts + most
  pub roles : length new.roles ≤ length old.roles + most
  pub inds : length new.inds ≤ length old.inds + most

-- each list has fewer texts than this
pub record IsBelow (limit : ℕ) (numbers : Numbers) : Type 0 where
  pub variables : length numbers.variables < limit
  pub concepts : length numbers.concepts < limit
  pub roles : length numbers.roles < limit
  pub inds : length numbers.inds < limit
