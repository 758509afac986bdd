-- The facts with which alone a query may match.
use Rattle.std.proofs.Common.{◌≡◌, ℕ, List, [], ◌∷◌, Contains, ◌⊎◌, inl, inr, ◌↔◌, true, false, slice_get, Some, sym, ◌∙◌, subst, arith}
use Rattle.std.proofs.lemmas.Bool.Decides.{nat_tests}
use Rattle.cq_terms.specs.declared.facts.Kind.TheVariants as kind
use Rattle.cq_terms.specs.declared.facts.Fact.{Fact}
use Rattle.cq_terms.specs.declared.facts.Fact.TheVariants as fact
use Rattle.cq_terms.specs.declared.query.Term.{Term}
use Rattle.cq_terms.specs.declared.query.QAtom.{QAtom}
use Rattle.cq_terms.specs.declared.query.QAtom.TheVariants as atom
use Rattle.cq_terms.specs.Query.{Query}
use Rattle.cq_meaning.specs.Chase.{Node, Named, ConceptAtom, RoleAtom, atom_of}
use Rattle.cq_meaning.specs.Entailment.{AtomBecomes, HasImage}
use Rattle.cq_meaning.proofs.Members.{Contains-cases, Contains-nil, slice_get-Contains}
use Rattle.cq_meaning.proofs.Places.{some_inj}
use Rattle.fact_index.specs.Numbers.{AreNumbers, HasPred}
use Rattle.conflict_finder.specs.Images.{are_alike, IsOfFact}
use Rattle.conflict_finder.proofs.Parts.{zip_there}

-- ---- the list of a predicate

concept_to : (p : ℕ) (t : Term) (f : Fact) → HasPred kind.Concept p f → IsOfFact (atom.Concept p t) f
concept_to p t (fact.Concept q c) h = h
concept_to p t (fact.Link q c d) h = h

concept_from : (p : ℕ) (t : Term) (f : Fact) → IsOfFact (atom.Concept p t) f → HasPred kind.Concept p f
concept_from p t (fact.Concept q c) h = h
concept_from p t (fact.Link q c d) h = h

link_to : (p : ℕ) (s t : Term) (f : Fact) → HasPred kind.Link p f → IsOfFact (atom.Link p s t) f
link_to p s t (fact.Concept q c) h = h
link_to p s t (fact.Link q c d) h = h

link_from : (p : ℕ) (s t : Term) (f : Fact) → IsOfFact (atom.Link p s t) f → HasPred kind.Link p f
link_from p s t (fact.Concept q c) h = h
link_from p s t (fact.Link q c d) h = h

pub of_concept : (facts : List Fact) (a : QAtom) (p : ℕ) (t : Term) → a ≡ atom.Concept p t → (numbers : List ℕ)
    → AreNumbers (HasPred kind.Concept p) facts numbers
    → (n : ℕ) → Contains numbers n ↔ ((f : Fact) × IsOfFact a f × (slice_get facts n ≡ Some f))
of_concept facts a p t e numbers are n = (
  (λ c. let w = (are.exact n).0 c in (w.0, subst (λ (x : QAtom). IsOfFact x w.0) (sym e) (concept_to p t w.0 w.1), w.2)),
  (λ (f, h, at). (are.exact n).1 (f, concept_from p t f (subst (λ (x : QAtom). IsOfFact x f) e h), at)),
)

pub of_link : (facts : List Fact) (a : QAtom) (p : ℕ) (s t : Term) → a ≡ atom.Link p s t → (numbers : List ℕ) → AreNumbers (HasPred kind.Link p) facts numbers
    → (n : ℕ) → Contains numbers n ↔ ((f : Fact) × IsOfFact a f × (slice_get facts n ≡ Some f))
of_link facts a p s t e numbers are n = (
  (λ c. let w = (are.exact n).0 c in (w.0, subst (λ (x : QAtom). IsOfFact x w.0) (sym e) (link_to p s t w.0 w.1), w.2)),
  (λ (f, h, at). (are.exact n).1 (f, link_from p s t f (subst (λ (x : QAtom). IsOfFact x f) e h), at)),
)

-- ---- atoms that become one fact

becomes_of : (v : ℕ → Node) (a : QAtom) (f : Fact) → AtomBecomes v a (atom_of f) → IsOfFact a f
becomes_of v (atom.Concept p t) (fact.Concept q c) (n, b, e) = let h : ConceptAtom q (Named c) ≡ ConceptAtom p n = e in cc
becomes_of v (atom.Link p s t) (fact.Link q c d) (n, m, b, b', e) = let h : RoleAtom q (Named c) (Named d) ≡ RoleAtom p n m = e in cc
becomes_of v (atom.Concept p t) (fact.Link q c d) (n, b, e) = let h : RoleAtom q (Named c) (Named d) ≡ ConceptAtom p n = e in cc
becomes_of v (atom.Link p s t) (fact.Concept q c) (n, m, b, b', e) = let h : ConceptAtom q (Named c) ≡ RoleAtom p n m = e in cc

alike : (a b : QAtom) (f : Fact) → IsOfFact a f → IsOfFact b f → are_alike a b ≡ true
alike (atom.Concept p s) (atom.Concept q t) (fact.Concept r c) h k = grind (arith, nat_tests, h, k)
alike (atom.Concept p s) (atom.Concept q t) (fact.Link r c d) h k = absurd h
alike (atom.Link p s s') (atom.Link q t t') (fact.Link r c d) h k = grind (arith, nat_tests, h, k)
alike (atom.Link p s s') (atom.Link q t t') (fact.Concept r c) h k = absurd h
alike (atom.Concept p s) (atom.Link q t t') (fact.Concept r c) h k = absurd k
alike (atom.Concept p s) (atom.Link q t t') (fact.Link r c d) h k = absurd h
alike (atom.Link p s s') (atom.Concept q t) (fact.Link r c d) h k = absurd k
alike (atom.Link p s s') (atom.Concept q t) (fact.Concept r c) h k = absurd h

module _ (facts : List Fact) (q : Query) (n : ℕ) (h : HasImage facts q [] (n ∷ [])) where
  -- each atom becomes the fact of the number
  pub atom_there : (a : QAtom) → Contains q.body a → (f : Fact) × IsOfFact a f × (slice_get facts n ≡ Some f)
  atom_there a c =
      let z = zip_there _ q.body h.match.0 h.match.1.2 a c in
      let w = slice_get-Contains facts z.0 z.2.0 in
      let inside = (h.match.2 w.0).1 (z.0, z.1, w.1) in
      let same : n ≡ w.0 = only w.0 (Contains-cases n [] w.0 inside) in
      (z.0, becomes_of _ a z.0 z.2.1, subst (λ i. slice_get facts i ≡ Some z.0) (sym same) w.1)
    where
      only : (i : ℕ) → (n ≡ i) ⊎ Contains [] i → n ≡ i
      only i (inl e) = e
      only i (inr z) = absurd (Contains-nil i z)

  pub all_alike : (a b : QAtom) → Contains q.body a → Contains q.body b → are_alike a b ≡ true
  all_alike a b ca cb =
      let x = atom_there a ca in
      let y = atom_there b cb in
      alike a b x.0 x.1 (subst (IsOfFact b) (some_inj (sym y.2 ∙ x.2)) y.1)

  -- atoms of several predicates don't match with one fact
  pub never_unlike : (body : List QAtom) → q.body ≡ body → (a b : QAtom) → false ≡ are_alike a b → Contains body a → Contains body b → ⊥
  never_unlike body e a b unlike ca cb =
      let same = all_alike a b (subst (λ (atoms : List QAtom). Contains atoms a) (sym e) ca) (subst (λ (atoms : List QAtom). Contains atoms b) (sym e) cb) in
      cc
