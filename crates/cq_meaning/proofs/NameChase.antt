-- The chase under axioms over concept names: the names that inclusions lead to, of one individual.
use Rattle.std.proofs.Common.{◌≡◌, ℕ, zero, suc, inr, List, Contains, refl, sym, subst, ap, ◌∙◌}
use Rattle.cq_terms.specs.declared.axioms.Basic.TheVariants.{Concept, Has}
use Rattle.cq_terms.specs.declared.axioms.Axiom.{Axiom}
use Rattle.cq_terms.specs.declared.axioms.Axiom.TheVariants.{Sub, Disjoint, SubRole, DisjointRole}
use Rattle.cq_terms.specs.declared.facts.Fact.{Fact}
use Rattle.cq_terms.specs.declared.facts.Fact.TheVariants as fact
use Rattle.cq_meaning.specs.Chase.{Node, Named, Atom, ConceptAtom, atom_of, InStage, Derives, IsConsequence}
use Rattle.cq_meaning.specs.ConceptNames.{IsOfNames, Includes}
use Rattle.cq_meaning.proofs.Stages.{InStage-keeps}

module _ (axioms : List Axiom) (names : (rule : Axiom) → Contains axioms rule → IsOfNames rule) where
  -- a consequence is of an inclusion
  by_inclusion : (x y : Atom) → Derives axioms x y → (a : ℕ) × (b : ℕ) × (t : Node) × Contains axioms (Sub (Concept a) (Concept b)) × (x ≡ ConceptAtom a t)
      × (y ≡ ConceptAtom b t)
  by_inclusion x y (rule, m, c) = go rule (names rule m) m c
    where
      go : (rule : Axiom) → IsOfNames rule → Contains axioms rule → IsConsequence rule x y → (a : ℕ) × (b : ℕ) × (t : Node)
          × Contains axioms (Sub (Concept a) (Concept b)) × (x ≡ ConceptAtom a t) × (y ≡ ConceptAtom b t)
      go (Sub (Concept a) (Concept b)) n m (t, e, d) = (a, b, t, m, e, d)
      go (Sub (Concept a) (Has r)) n m c = absurd n
      go (Sub (Has r) b) n m c = absurd n
      go (Disjoint b c) n m w = absurd w
      go (SubRole r q) n m w = absurd n
      go (DisjointRole r q) n m w = absurd n

  -- what the chase of one fact has
  pub name_chase : (a c k : ℕ) (x : Atom) → InStage axioms (λ f. f ≡ fact.Concept a c) k x → (n : ℕ) × (b : ℕ) × Includes axioms n a b
      × (x ≡ ConceptAtom b (Named c))
  name_chase a c = InStage-keeps axioms (λ f. f ≡ fact.Concept a c) (λ x. (n : ℕ) × (b : ℕ) × Includes axioms n a b × (x ≡ ConceptAtom b (Named c)))
      (λ f e. (0, a, refl, ap atom_of e))
      (λ x y (n, b, i, e) w. let s = by_inclusion x y w in go x y n b i e s)
    where
      go : (x y : Atom) (n b : ℕ) → Includes axioms n a b → x ≡ ConceptAtom b (Named c)
          → (a' : ℕ) × (b' : ℕ) × (t : Node) × Contains axioms (Sub (Concept a') (Concept b')) × (x ≡ ConceptAtom a' t) × (y ≡ ConceptAtom b' t)
          → (n : ℕ) × (b : ℕ) × Includes axioms n a b × (y ≡ ConceptAtom b (Named c))
      go x y n b i e (a', b', t, m, d, f) =
          let ea : b ≡ a' = cc in let et : t ≡ Named c = cc in
          (suc n, b', (b, i, subst (λ z. Contains axioms (Sub (Concept z) (Concept b'))) (sym ea) m), f ∙ ap (ConceptAtom b') et)

  -- and all that it has
  pub name_chased : (F : Fact → Type 0) (a c n b : ℕ) → F (fact.Concept a c) → Includes axioms n a b → InStage axioms F n (ConceptAtom b (Named c))
  name_chased F a c zero b f e = (fact.Concept a c, f, ap (λ z. ConceptAtom z (Named c)) (sym e))
  name_chased F a c (suc n) b f (d, i, m) = inr (ConceptAtom d (Named c), name_chased F a c n d f i, (Sub (Concept d) (Concept b), m, (Named c, refl, refl)))
