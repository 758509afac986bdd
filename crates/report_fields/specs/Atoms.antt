-- Terms and atoms of a query as JSON: a term is `N` for a variable, `[N]` for an individual, `null` for `_`; an atom is
-- `["c",PRED,TERM]` or `["r",PRED,FROM,TO]`.
use Rattle.std.specs.Prelude.{ℕ, ◌<◌, ◌^◌, List, map, Option, Some, None, is_some, option_and_then, if◌then◌else◌, codes}
use Rattle.std.specs.Str.{bytes_eq}
use Rattle.serde_json.specs.Data.{Data, null, string, array, no_items, item}
use Rattle.serde_json.specs.Find.{at, as_array}
use Rattle.serde_json.specs.View.{items_of}
use Rattle.cq_terms.specs.declared.query.Term.{Term}
use Rattle.cq_terms.specs.declared.query.Term.TheVariants as term
use Rattle.cq_terms.specs.declared.query.QAtom.{QAtom}
use Rattle.cq_terms.specs.declared.query.QAtom.TheVariants as atom
use Rattle.report_fields.specs.Fields.{number_data, is_null, id_of, each_of, id_in, word_in, items_at}

-- the number of the term is in its range
abbrev pub IsTermInRange : Term → Type 0
IsTermInRange (term.Var l) = l < 2 ^ 32
IsTermInRange (term.Ind c) = c < 2 ^ 32
IsTermInRange term.Any = Unit {0}

-- the numbers of the atom are in their range
abbrev pub IsAtomInRange : QAtom → Type 0
IsAtomInRange (atom.Concept a t) = (a < 2 ^ 32) × IsTermInRange t
IsAtomInRange (atom.Link p s t) = (p < 2 ^ 32) × IsTermInRange s × IsTermInRange t

-- PRINTED

-- a term
abbrev pub term_data : Term → Data
term_data (term.Var l) = number_data l
term_data (term.Ind c) = array (item (number_data c) no_items)
term_data term.Any = null

-- the atom of a concept
abbrev pub concept_data : ℕ → Term → Data
concept_data a t = array (item (string (codes "c")) (item (number_data a) (item (term_data t) no_items)))

-- the atom of a role
abbrev pub link_data : ℕ → Term → Term → Data
link_data p s t = array (item (string (codes "r")) (item (number_data p) (item (term_data s) (item (term_data t) no_items))))

-- an atom
abbrev pub atom_data : QAtom → Data
atom_data (atom.Concept a t) = concept_data a t
atom_data (atom.Link p s t) = link_data p s t

-- an array of terms
abbrev pub terms_data : List Term → Data
terms_data terms = array (items_of (map term_data terms))

-- an array of atoms
abbrev pub atoms_data : List QAtom → Data
atoms_data atoms = array (items_of (map atom_data atoms))

-- READ

-- the value as a term
abbrev pub term_of : Data → Option Term
term_of d =
    if is_null d then Some term.Any
    else if is_some (as_array d) then option_and_then (λ c. Some (term.Ind c)) (id_in 0 d)
    else option_and_then (λ l. Some (term.Var l)) (id_of d)

-- the term at a place of an array
abbrev pub term_in : ℕ → Data → Option Term
term_in place d = option_and_then term_of (at place d)

-- the value as an atom of a concept
abbrev pub concept_of : Data → Option QAtom
concept_of d = option_and_then (λ a. option_and_then (λ t. Some (atom.Concept a t)) (term_in 2 d)) (id_in 1 d)

-- the value as an atom of a role
abbrev pub link_of : Data → Option QAtom
link_of d = option_and_then (λ p. option_and_then (λ s. option_and_then (λ t. Some (atom.Link p s t)) (term_in 3 d)) (term_in 2 d)) (id_in 1 d)

-- the value as an atom of the kind that the word names
abbrev pub atom_of_kind : List ℕ → Data → Option QAtom
atom_of_kind word d =
    if bytes_eq word (codes "c") then concept_of d
    else if bytes_eq word (codes "r") then link_of d
    else None

-- the value as an atom
abbrev pub atom_of : Data → Option QAtom
atom_of d = option_and_then (λ word. atom_of_kind word d) (word_in 0 d)

-- the terms in the array under a key
abbrev pub terms_at : List ℕ → Data → Option (List Term)
terms_at key d = option_and_then (each_of term_of) (items_at key d)

-- the atoms in the array under a key
abbrev pub atoms_at : List ℕ → Data → Option (List QAtom)
atoms_at key d = option_and_then (each_of atom_of) (items_at key d)
