-- Lists of names that grow at their ends, and what is numbered by them.
use Rattle.std.proofs.Common.{◌≡◌, ℕ, List, [], ◌∷◌, ◌++◌, slice_get, Some, sym, subst}
use Rattle.cq_terms.specs.Names.{with_text}
use Rattle.cq_terms.specs.declared.query.Term.{Term}
use Rattle.cq_terms.specs.declared.query.Term.TheVariants as term
use Rattle.cq_terms.specs.declared.query.QAtom.{QAtom}
use Rattle.cq_terms.specs.declared.query.QAtom.TheVariants as atom
use Rattle.axiom_reader.specs.Numbering.{IsPrefix}
use Rattle.axiom_reader.proofs.TextLemmas.{IsPrefix-refl, IsPrefix-trans, IsPrefix-with_text, slice_get-prefix}
use Rattle.query_reader.specs.Grammar.{NamedTerm, variable_term, constant_term, NamedAtom, concept_atom, role_atom}
use Rattle.query_reader.specs.Numbering.{Numbers, KeepsNumbers, IsTermOf, IsAtomOf, AreAtomsOf}

pub KeepsNumbers-refl : (numbers : Numbers) → KeepsNumbers numbers numbers
KeepsNumbers-refl numbers = record {
  variables = IsPrefix-refl numbers.variables;
  concepts = IsPrefix-refl numbers.concepts;
  roles = IsPrefix-refl numbers.roles;
  inds = IsPrefix-refl numbers.inds;
}

pub KeepsNumbers-trans : (old mid new : Numbers) → KeepsNumbers old mid → KeepsNumbers mid new → KeepsNumbers old new
KeepsNumbers-trans old mid new h k = record {
  variables = IsPrefix-trans old.variables mid.variables new.variables h.variables k.variables;
  concepts = IsPrefix-trans old.concepts mid.concepts new.concepts h.concepts k.concepts;
  roles = IsPrefix-trans old.roles mid.roles new.roles h.roles k.roles;
  inds = IsPrefix-trans old.inds mid.inds new.inds h.inds k.inds;
}

-- a role that was put
pub kept_role : (numbers : Numbers) (text : List ℕ) (roles : List (List ℕ)) → roles ≡ with_text numbers.roles text
    → KeepsNumbers numbers (record numbers { roles = roles })
kept_role numbers text roles put = record {
  variables = IsPrefix-refl numbers.variables;
  concepts = IsPrefix-refl numbers.concepts;
  roles = subst (IsPrefix numbers.roles) (sym put) (IsPrefix-with_text numbers.roles text);
  inds = IsPrefix-refl numbers.inds;
}

-- a term keeps its number
pub IsTermOf-kept : (old new : Numbers) (named : NamedTerm) (given : Term) → KeepsNumbers old new → IsTermOf old named given → IsTermOf new named given
IsTermOf-kept old new (variable_term letters) (term.Var number) kept h = slice_get-prefix old.variables new.variables number letters kept.variables h
IsTermOf-kept old new (constant_term text) (term.Ind number) kept h = slice_get-prefix old.inds new.inds number text kept.inds h
IsTermOf-kept old new (variable_term letters) (term.Ind number) kept h = absurd h
IsTermOf-kept old new (variable_term letters) term.Any kept h = absurd h
IsTermOf-kept old new (constant_term text) (term.Var number) kept h = absurd h
IsTermOf-kept old new (constant_term text) term.Any kept h = absurd h

-- so does an atom
pub IsAtomOf-kept : (old new : Numbers) (named : NamedAtom) (given : QAtom) → KeepsNumbers old new → IsAtomOf old named given → IsAtomOf new named given
IsAtomOf-kept old new (concept_atom concept at) (atom.Concept pred given) kept h =
    (slice_get-prefix old.concepts new.concepts pred concept kept.concepts h.0, IsTermOf-kept old new at given kept h.1)
IsAtomOf-kept old new (role_atom role from to) (atom.Link pred first second) kept h =
    (slice_get-prefix old.roles new.roles pred role kept.roles h.0, IsTermOf-kept old new from first kept h.1, IsTermOf-kept old new to second kept h.2)
IsAtomOf-kept old new (concept_atom concept at) (atom.Link pred first second) kept h = absurd h
IsAtomOf-kept old new (role_atom role from to) (atom.Concept pred given) kept h = absurd h

-- so do all of a list
pub AreAtomsOf-kept : (old new : Numbers) (named : List NamedAtom) (atoms : List QAtom) → KeepsNumbers old new → AreAtomsOf old named atoms
    → AreAtomsOf new named atoms
AreAtomsOf-kept old new [] [] kept h = tt
AreAtomsOf-kept old new (first ∷ named) (given ∷ atoms) kept h = (IsAtomOf-kept old new first given kept h.0, AreAtomsOf-kept old new named atoms kept h.1)
AreAtomsOf-kept old new [] (given ∷ atoms) kept h = absurd h
AreAtomsOf-kept old new (first ∷ named) [] kept h = absurd h

-- one more atom
pub AreAtomsOf-push : (numbers : Numbers) (named : List NamedAtom) (atoms : List QAtom) (one : NamedAtom) (given : QAtom) → AreAtomsOf numbers named atoms
    → IsAtomOf numbers one given → AreAtomsOf numbers (named ++ one ∷ []) (atoms ++ given ∷ [])
AreAtomsOf-push numbers [] [] one given h last = (last, tt)
AreAtomsOf-push numbers (first ∷ named) (item ∷ atoms) one given h last = (h.0, AreAtomsOf-push numbers named atoms one given h.1 last)
AreAtomsOf-push numbers [] (item ∷ atoms) one given h last = absurd h
AreAtomsOf-push numbers (first ∷ named) [] one given h last = absurd h

-- a role between two terms, the first of which was numbered before the second
pub role_is : (old mid new : Numbers) (role : List ℕ) (first second : NamedTerm) (pred : ℕ) (from to : Term) → slice_get old.roles pred ≡ Some role
    → KeepsNumbers old mid → IsTermOf mid first from → KeepsNumbers mid new → IsTermOf new second to
    → IsAtomOf new (role_atom role first second) (atom.Link pred from to)
role_is old mid new role first second pred from to at h given k last =
    (slice_get-prefix old.roles new.roles pred role (KeepsNumbers-trans old mid new h k).roles at, IsTermOf-kept mid new first from k given, last)
