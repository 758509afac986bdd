-- Terms and atoms: their JSON is plain and reads back as them, and what is read is in its range.
use Rattle.std.proofs.Common.{◌≡◌, ℕ, ◌<◌, ◌≤◌, ◌^◌, Bool, true, false, List, Some, None, map, option_and_then, codes, refl, arith, All}
use Rattle.std.specs.Prelude.{if◌then◌else◌, is_some}
use Rattle.std.specs.Str.{bytes_eq}
use Rattle.std.proofs.lemmas.Option.{option_and_then_some}
use Rattle.json.proofs.Printed.Utf8.{IsUtf8-are_ascii}
use Rattle.serde_json.specs.Data.{Data, depth, items_depth}
use Rattle.serde_json.specs.Find.{at, as_array}
use Rattle.serde_json.specs.View.{items_of}
use Rattle.cq_terms.specs.declared.query.Term.{Term}
use Rattle.cq_terms.specs.declared.query.Term.TheVariants as term
use Rattle.cq_terms.specs.declared.query.QAtom.{QAtom}
use Rattle.cq_terms.specs.declared.query.QAtom.TheVariants as atom
use Rattle.report_fields.specs.Fields.{is_null, id_of, each_of, id_in, word_in, items_at}
use Rattle.report_fields.specs.Atoms.{IsTermInRange, IsAtomInRange, term_data, atom_data, term_of, term_in, concept_of, link_of, atom_of_kind, atom_of}
use Rattle.report_fields.specs.Atoms.{terms_at, atoms_at}
use Rattle.report_fields.proofs.Plain.{IsPlain, ArePlain}
use Rattle.report_fields.proofs.FieldFacts.{items_depth-each, ArePlain-each, if_below-lt, each_of-each, below-id_of, below-id_in, All-each_of}

-- PRINTED

-- terms nest once
depth-term_data : (t : Term) → depth (term_data t) ≤ 1
depth-term_data (term.Var l) = omega arith
depth-term_data (term.Ind c) = omega arith
depth-term_data term.Any = omega arith

-- atoms nest twice
depth-atom_data : (a : QAtom) → depth (atom_data a) ≤ 2
depth-atom_data (atom.Concept p t) = omega (arith, depth-term_data t)
depth-atom_data (atom.Link p s t) = omega (arith, depth-term_data s, depth-term_data t)

-- a term in its range is plain
IsPlain-term_data : (t : Term) → IsTermInRange t → IsPlain (term_data t)
IsPlain-term_data (term.Var l) h = let small : l < 2 ^ 32 = h in omega arith
IsPlain-term_data (term.Ind c) h = let small : c < 2 ^ 32 = h in (omega arith, tt)
IsPlain-term_data term.Any h = tt

-- and so is an atom
IsPlain-atom_data : (a : QAtom) → IsAtomInRange a → IsPlain (atom_data a)
IsPlain-atom_data (atom.Concept p t) h = let small : p < 2 ^ 32 = h.0 in (IsUtf8-are_ascii _ refl, (omega arith, (IsPlain-term_data t h.1, tt)))
IsPlain-atom_data (atom.Link p s t) h = let small : p < 2 ^ 32 = h.0 in
    (IsUtf8-are_ascii _ refl, (omega arith, (IsPlain-term_data s h.1, (IsPlain-term_data t h.2, tt))))

-- terms nest once, in a list too
pub items_depth-terms : (ts : List Term) → items_depth (items_of (map term_data ts)) ≤ 1
items_depth-terms ts = items_depth-each term_data 1 depth-term_data ts

-- and atoms twice
pub items_depth-atoms : (atoms : List QAtom) → items_depth (items_of (map atom_data atoms)) ≤ 2
items_depth-atoms atoms = items_depth-each atom_data 2 depth-atom_data atoms

-- terms in their range are plain
pub ArePlain-terms : (ts : List Term) → All IsTermInRange ts → ArePlain (items_of (map term_data ts))
ArePlain-terms ts h = ArePlain-each IsTermInRange term_data IsPlain-term_data ts h

-- and so are atoms
pub ArePlain-atoms : (atoms : List QAtom) → All IsAtomInRange atoms → ArePlain (items_of (map atom_data atoms))
ArePlain-atoms atoms h = ArePlain-each IsAtomInRange atom_data IsPlain-atom_data atoms h

-- READ BACK

-- a term reads back
term_of-term_data : (t : Term) → IsTermInRange t → term_of (term_data t) ≡ Some t
term_of-term_data (term.Var l) h = rw (if_below-lt (2 ^ 32) l h) refl
term_of-term_data (term.Ind c) h = rw (if_below-lt (2 ^ 32) c h) refl
term_of-term_data term.Any h = refl

-- an atom reads back
atom_of-atom_data : (a : QAtom) → IsAtomInRange a → atom_of (atom_data a) ≡ Some a
atom_of-atom_data (atom.Concept p t) h = rw (if_below-lt (2 ^ 32) p h.0, term_of-term_data t h.1) refl
atom_of-atom_data (atom.Link p s t) h = rw (if_below-lt (2 ^ 32) p h.0, term_of-term_data s h.1, term_of-term_data t h.2) refl

-- terms read back
pub each_of-terms : (ts : List Term) → All IsTermInRange ts → each_of term_of (items_of (map term_data ts)) ≡ Some ts
each_of-terms ts h = each_of-each IsTermInRange term_data term_of term_of-term_data ts h

-- atoms read back
pub each_of-atoms : (atoms : List QAtom) → All IsAtomInRange atoms → each_of atom_of (items_of (map atom_data atoms)) ≡ Some atoms
each_of-atoms atoms h = each_of-each IsAtomInRange atom_data atom_of atom_of-atom_data atoms h

-- WHAT IS READ IS IN ITS RANGE

-- a term that is read is in its range
IsTermInRange-term_of : (d : Data) (t : Term) → term_of d ≡ Some t → IsTermInRange t
IsTermInRange-term_of d t e = by (is_null d) (is_some (as_array d)) e
  where
    by : (x y : Bool) → (if x then Some term.Any else if y then option_and_then (λ c. Some (term.Ind c)) (id_in 0 d) else option_and_then
        (λ l. Some (term.Var l)) (id_of d)) ≡ Some t → IsTermInRange t
    by true y e = let same : term.Any ≡ t = cc e in rw (← same) tt
    by false true e = option_and_then_some (λ c. Some (term.Ind c)) (id_in 0 d) t e
        (λ c c_is is. let same : term.Ind c ≡ t = cc is in rw (← same) (below-id_in 0 d c c_is))
    by false false e = option_and_then_some (λ l. Some (term.Var l)) (id_of d) t e
        (λ l l_is is. let same : term.Var l ≡ t = cc is in rw (← same) (below-id_of d l l_is))

-- the same at a place
IsTermInRange-term_in : (place : ℕ) (d : Data) (t : Term) → term_in place d ≡ Some t → IsTermInRange t
IsTermInRange-term_in place d t e = option_and_then_some term_of (at place d) t e (λ found from is. IsTermInRange-term_of found t is)

-- an atom of a concept that is read is in its range
IsAtomInRange-concept_of : (d : Data) (a : QAtom) → concept_of d ≡ Some a → IsAtomInRange a
IsAtomInRange-concept_of d a e =
    option_and_then_some _ (id_in 1 d) a e (λ p p_is e.
    option_and_then_some _ (term_in 2 d) a e (λ t t_is e.
    let same : atom.Concept p t ≡ a = cc e in
    rw (← same) (below-id_in 1 d p p_is, IsTermInRange-term_in 2 d t t_is)))

-- and so is one of a role
IsAtomInRange-link_of : (d : Data) (a : QAtom) → link_of d ≡ Some a → IsAtomInRange a
IsAtomInRange-link_of d a e =
    option_and_then_some _ (id_in 1 d) a e (λ p p_is e.
    option_and_then_some _ (term_in 2 d) a e (λ s s_is e.
    option_and_then_some _ (term_in 3 d) a e (λ t t_is e.
    let same : atom.Link p s t ≡ a = cc e in
    rw (← same) (below-id_in 1 d p p_is, IsTermInRange-term_in 2 d s s_is, IsTermInRange-term_in 3 d t t_is))))

-- an atom that is read is in its range
IsAtomInRange-atom_of : (d : Data) (a : QAtom) → atom_of d ≡ Some a → IsAtomInRange a
IsAtomInRange-atom_of d a e = option_and_then_some (λ word. atom_of_kind word d) (word_in 0 d) a e
    (λ word word_is e. by (bytes_eq word (codes "c")) (bytes_eq word (codes "r")) e)
  where
    by : (x y : Bool) → (if x then concept_of d else if y then link_of d else None) ≡ Some a → IsAtomInRange a
    by true y e = IsAtomInRange-concept_of d a e
    by false true e = IsAtomInRange-link_of d a e
    by false false e = cc e

-- the terms under a key are in their range
pub All-terms_at : (key : List ℕ) (d : Data) (ts : List Term) → terms_at key d ≡ Some ts → All IsTermInRange ts
All-terms_at key d ts e = option_and_then_some (each_of term_of) (items_at key d) ts e
    (λ items from is. All-each_of IsTermInRange term_of IsTermInRange-term_of items ts is)

-- and so are the atoms
pub All-atoms_at : (key : List ℕ) (d : Data) (atoms : List QAtom) → atoms_at key d ≡ Some atoms → All IsAtomInRange atoms
All-atoms_at key d atoms e = option_and_then_some (each_of atom_of) (items_at key d) atoms e
    (λ items from is. All-each_of IsAtomInRange atom_of IsAtomInRange-atom_of items atoms is)
