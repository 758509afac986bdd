-- A query of one atom is brave exactly where one self-consistent fact entails it.
use Rattle.std.proofs.Common.{◌≡◌, ℕ, ◌<◌, ◌↔◌, List, [], ◌∷◌, length, refl, sym, subst, Bool, eqb, eqb-true, eq-eqb, slice_get, Some}
use Rattle.std.specs.List.{AllByRecursion}
use Rattle.std.proofs.lemmas.Option.{slice_get_within}
use Rattle.cq_terms.specs.declared.axioms.Axiom.{Axiom}
use Rattle.cq_terms.specs.declared.facts.Fact.{Fact}
use Rattle.cq_terms.specs.declared.query.QAtom.{QAtom}
use Rattle.cq_terms.specs.declared.query.Term.{Term}
use Rattle.cq_terms.specs.declared.facts.Repairs.TheVariants as mode
use Rattle.cq_terms.specs.Knowledge.{Knowledge}
use Rattle.cq_terms.specs.Query.{Query}
use Rattle.cq_meaning.specs.Chase.{Atom, InStage}
use Rattle.cq_meaning.specs.Entailment.{AtomBecomes, Entails}
use Rattle.cq_meaning.specs.Conflicts.{facts_in, Only, In, AreConsistent, FactsEntail, TellConflicts}
use Rattle.cq_meaning.specs.Repairs.{IsBrave}
use Rattle.cq_meaning.proofs.Stages.{InStage-mono, descends}
use Rattle.cq_meaning.proofs.Extension.{facts_in-mono, AreConsistent-mono, extends_to_repair}
use Rattle.cq_meaning.proofs.Chosen.{chosen_in_all}

-- more facts entail more
pub Entails-mono : (axioms : List Axiom) (F G : Fact → Type 0) → ((f : Fact) → F f → G f) → (q : Query) (tuple : List ℕ) → Entails axioms F q tuple
    → Entails axioms G q tuple
Entails-mono axioms F G h q tuple (k, (v, head, body)) = (k, (v, head, all q.body body))
  where
    all : (xs : List QAtom) → AllByRecursion (λ a. (x : Atom) × InStage axioms F k x × AtomBecomes v a x) xs
        → AllByRecursion (λ a. (x : Atom) × InStage axioms G k x × AtomBecomes v a x) xs
    all [] b = tt
    all (a ∷ xs) (b, bs) = ((b.0, InStage-mono axioms F G h k b.0 b.1, b.2), all xs bs)

pub FactsEntail-mono : (kb : Knowledge) (q : Query) (tuple : List ℕ) (S T : ℕ → Type 0) → ((i : ℕ) → S i → T i) → FactsEntail kb S q tuple
    → FactsEntail kb T q tuple
FactsEntail-mono kb q tuple S T h e = Entails-mono kb.axioms _ _ (facts_in-mono kb S T h) q tuple e

pub brave_by_one : (kb : Knowledge) (own : ℕ → Bool) (clash : ℕ → ℕ → Bool) → TellConflicts kb own clash → (head : List Term) (a : QAtom) (tuple : List ℕ)
    → IsBrave kb mode.All (record { head = head; body = a ∷ [] }) tuple
    ↔ ((i : ℕ) × (i < length kb.facts) × AreConsistent kb (Only i) × FactsEntail kb (Only i) (record { head = head; body = a ∷ [] }) tuple)
brave_by_one kb own clash tell head a tuple = (to, from)
  where
    q : Query
    q = record { head = head; body = a ∷ [] }

    one : (R : ℕ → Bool) → AreConsistent kb (In R) → FactsEntail kb (In R) q tuple → (i : ℕ) × (i < length kb.facts) × AreConsistent kb (Only i)
        × FactsEntail kb (Only i) q tuple
    one R c (k, (v, h, ((x, s, m), u))) =
        let d = descends kb.axioms (facts_in kb (In R)) k x s in
        let i : ℕ = d.1.0 in (
          i,
          slice_get_within kb.facts i d.0 d.1.2,
          AreConsistent-mono kb (Only i) (In R) (λ l e. subst (In R) (sym e) d.1.1) c,
          (k, (v, h, ((x, InStage-mono kb.axioms _ _ (λ g e. (i, refl, subst (λ g. slice_get kb.facts i ≡ Some g) (sym e) d.1.2)) k x d.2, m), tt))),
        )

    to : IsBrave kb mode.All q tuple → (i : ℕ) × (i < length kb.facts) × AreConsistent kb (Only i) × FactsEntail kb (Only i) q tuple
    to (R, c, e) = one R c.repair.consistent e

    from : (i : ℕ) × (i < length kb.facts) × AreConsistent kb (Only i) × FactsEntail kb (Only i) q tuple → IsBrave kb mode.All q tuple
    from (i, l, c, e) =
        let S : ℕ → Bool = λ l. eqb l i in
        let r = extends_to_repair kb own clash tell S (AreConsistent-mono kb (In S) (Only i) (λ l t. eqb-true l i t) c) in
        (r.0, chosen_in_all kb r.0 r.1, Entails-mono kb.axioms _ _ (facts_in-mono kb (Only i) (In r.0) (λ l e. r.2 l (eq-eqb l i e))) q tuple e)
