-- The query for the individuals of a concept.
use Rattle.std.proofs.Common.{◌≡◌, ℕ, List, [], ◌∷◌, arith, refl, subst, sym}
use Rattle.std.proofs.lemmas.List.Elements.{All-cons, All-nil}
use Rattle.cq_terms.specs.declared.query.Term.{Term}
use Rattle.cq_terms.specs.declared.query.Term.TheVariants as term
use Rattle.cq_terms.specs.declared.query.QAtom.{QAtom}
use Rattle.cq_terms.specs.declared.query.QAtom.TheVariants as atom
use Rattle.cq_terms.specs.Query.{IsMeant, IsSafe}

-- its head variable stands in its one atom
pub concept_safe : (concept : ℕ) (head : List Term) (body : List QAtom) → head ≡ term.Var 0 ∷ [] → body ≡ atom.Concept concept (term.Var 0) ∷ []
    → IsSafe (record { head = head; body = body })
concept_safe concept head body h b =
    let atoms : List QAtom = atom.Concept concept (term.Var 0) ∷ [] in
    let meant : IsMeant atoms (term.Var 0) = (0, atom.Concept concept (term.Var 0), omega arith, refl, refl) in
    let safe : IsSafe (record { head = term.Var 0 ∷ []; body = atoms }) =
    record { body = omega arith; head = All-cons (IsMeant atoms) (term.Var 0) [] meant (All-nil (IsMeant atoms)) } in
    subst (λ (ts : List Term). IsSafe (record { head = ts; body = body })) (sym h)
    (subst (λ (qs : List QAtom). IsSafe (record { head = term.Var 0 ∷ []; body = qs })) (sym b) safe)
