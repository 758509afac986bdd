-- Consistency and entailment of a listed part of a table are decided, and so the conflicts of each table can be told.
use Rattle.std.proofs.Common.{◌≡◌, ℕ, ◌⊎◌, ◌↔◌, inl, inr, List, [], ◌∷◌, Contains, Option, Some, None, slice_get, refl, sym, subst, ap, ◌∙◌, Bool, true}
use Rattle.std.proofs.Common.{false, true≢false, IsTrue}
use Rattle.std.proofs.lemmas.Bool.{cases_eq}
use Rattle.cq_terms.specs.declared.axioms.Axiom.{Axiom}
use Rattle.cq_terms.specs.declared.facts.Fact.{Fact}
use Rattle.cq_terms.specs.Knowledge.{Knowledge}
use Rattle.cq_terms.specs.Query.{Query}
use Rattle.cq_meaning.specs.Chase.{Consistent}
use Rattle.cq_meaning.specs.Entailment.{Entails, Match}
use Rattle.cq_meaning.specs.Conflicts.{facts_in, Only, Both, AreConsistent, FactsEntail, IsSelfInconsistent, Conflict, TellConflicts}
use Rattle.cq_meaning.specs.Rewriting.{IsClosure, disjointness_query}
use Rattle.cq_meaning.proofs.Members.{Contains-head, Contains-later, Contains-cases, Contains-nil}
use Rattle.cq_meaning.proofs.Places.{some_inj}
use Rattle.cq_meaning.proofs.Stages.{Consistent-mono}
use Rattle.cq_meaning.proofs.Single.{Entails-mono}
use Rattle.cq_meaning.proofs.Listed.{all_or_some}
use Rattle.cq_meaning.proofs.Exact.{rewriting_sound, rewriting_complete}
use Rattle.cq_meaning.proofs.ClosureExists.{closure_exists}
use Rattle.cq_meaning.proofs.Matching.{match_or_not}
use Rattle.cq_meaning.proofs.DisjointnessQueries.{consistent_by_queries}

-- ---- for lists of facts

pub entails_or_not : (axioms : List Axiom) (facts : List Fact) (q : Query) (tuple : List ℕ) → Entails axioms (Contains facts) q tuple
    ⊎ (¬ Entails axioms (Contains facts) q tuple)
entails_or_not axioms facts q tuple = let w = closure_exists axioms q in go w.0 w.1
  where
    go : (members : List Query) → IsClosure axioms q members → Entails axioms (Contains facts) q tuple ⊎ (¬ Entails axioms (Contains facts) q tuple)
    go members closed = elim (all_or_some (λ (m : Query). (image : List Fact) → ¬ Match m (Contains facts) tuple image)
        (λ (m : Query). (image : List Fact) × Match m (Contains facts) tuple image)
        (λ m. elim (match_or_not facts m tuple) [ inl y ↦ inr y | inr n ↦ inl n ]) members) [
          | inl none ↦ inr (λ e. let w = rewriting_complete axioms (Contains facts) q tuple e in none w.0 ((closed w.0).1 w.2) w.1 w.3)
          | inr (m, c, (image, h)) ↦ inl (rewriting_sound axioms (Contains facts) q m tuple image ((closed m).0 c) h)
        ]

-- the facts entail the query of a disjointness
abbrev pub EntailsForbidden : List Axiom → (Fact → Type 0) → Type 0
EntailsForbidden axioms F = (rule : Axiom) × (q : Query) × Contains axioms rule × (disjointness_query rule ≡ Some q) × Entails axioms F q []

pub forbidden_inconsistent : (axioms : List Axiom) (F : Fact → Type 0) → EntailsForbidden axioms F → ¬ Consistent axioms F
forbidden_inconsistent axioms F (rule, q, m, d, e) c = (consistent_by_queries axioms F).0 c rule q m d e

forbidden_or_consistent : (axioms : List Axiom) (facts : List Fact) → EntailsForbidden axioms (Contains facts) ⊎ Consistent axioms (Contains facts)
forbidden_or_consistent axioms facts = elim (all_or_some None_of Some_of (λ rule. each rule (disjointness_query rule) refl) axioms) [
  | inl none ↦ inr ((consistent_by_queries axioms (Contains facts)).1 (λ rule q m d. none rule m q d))
  | inr (rule, m, (q, d, e)) ↦ inl (rule, q, m, d, e)
]
  where
    None_of : Axiom → Type 0
    None_of rule = (q : Query) → disjointness_query rule ≡ Some q → ¬ Entails axioms (Contains facts) q []

    Some_of : Axiom → Type 0
    Some_of rule = (q : Query) × (disjointness_query rule ≡ Some q) × Entails axioms (Contains facts) q []

    each : (rule : Axiom) (o : Option Query) → disjointness_query rule ≡ o → None_of rule ⊎ Some_of rule
    each rule None d = inl (λ q e h. let w = sym d ∙ e in absurd (cc))
    each rule (Some p) d = elim (entails_or_not axioms facts p []) [
      | inl h ↦ inr (p, d, h)
      | inr n ↦ inl (λ q e h. n (subst (λ (r : Query). Entails axioms (Contains facts) r []) (some_inj (sym e ∙ d)) h))
    ]

-- ---- for listed parts of a table

-- the list with the fact, if there is one
abbrev with_fact : Option Fact → List Fact → List Fact
with_fact None facts = facts
with_fact (Some f) facts = f ∷ facts

-- the facts of the numbers
abbrev facts_at : List Fact → List ℕ → List Fact
facts_at facts [] = []
facts_at facts (i ∷ numbers) = with_fact (slice_get facts i) (facts_at facts numbers)

facts_at_is : (kb : Knowledge) (numbers : List ℕ) (f : Fact) → Contains (facts_at kb.facts numbers) f ↔ facts_in kb (Contains numbers) f
facts_at_is kb [] f = ((λ c. absurd (Contains-nil f c)), (λ (l, c, e). absurd (Contains-nil l c)))
facts_at_is kb (i ∷ numbers) f = go (slice_get kb.facts i) refl (facts_at_is kb numbers f)
  where
    later : facts_in kb (Contains numbers) f → facts_in kb (Contains (i ∷ numbers)) f
    later (l, c, e) = (l, Contains-later i numbers l c, e)

    go : (o : Option Fact) → slice_get kb.facts i ≡ o → Contains (facts_at kb.facts numbers) f ↔ facts_in kb (Contains numbers) f
        → Contains (with_fact o (facts_at kb.facts numbers)) f ↔ facts_in kb (Contains (i ∷ numbers)) f
    go None d w = ((λ c. later (w.0 c)), back)
      where
        back : facts_in kb (Contains (i ∷ numbers)) f → Contains (facts_at kb.facts numbers) f
        back (l, c, e) = elim (Contains-cases i numbers l c) [
          | inl p ↦ let h = sym d ∙ (ap (slice_get kb.facts) p ∙ e) in absurd (cc)
          | inr m ↦ w.1 (l, m, e)
        ]
    go (Some g) d w = (there, back)
      where
        there : Contains (g ∷ facts_at kb.facts numbers) f → facts_in kb (Contains (i ∷ numbers)) f
        there c = elim (Contains-cases g (facts_at kb.facts numbers) f c) [ inl e ↦ (i, Contains-head i numbers, d ∙ ap Some e) | inr m ↦ later (w.0 m) ]

        back : facts_in kb (Contains (i ∷ numbers)) f → Contains (g ∷ facts_at kb.facts numbers) f
        back (l, c, e) = elim (Contains-cases i numbers l c) [
          | inl p ↦ subst (Contains (g ∷ facts_at kb.facts numbers)) (some_inj (sym d ∙ (ap (slice_get kb.facts) p ∙ e)))
              (Contains-head g (facts_at kb.facts numbers))
          | inr m ↦ Contains-later g (facts_at kb.facts numbers) f (w.1 (l, m, e))
        ]

module _ (kb : Knowledge) (S : ℕ → Type 0) (numbers : List ℕ) (same : (i : ℕ) → S i ↔ Contains numbers i) where
  there : (f : Fact) → Contains (facts_at kb.facts numbers) f → facts_in kb S f
  there f c = let w = (facts_at_is kb numbers f).0 c in (w.0, (same w.0).1 w.1, w.2)

  back : (f : Fact) → facts_in kb S f → Contains (facts_at kb.facts numbers) f
  back f (i, s, e) = (facts_at_is kb numbers f).1 (i, (same i).0 s, e)

  -- a set of the numbers of a list entails the query of a disjointness, or is consistent
  pub part_decided : EntailsForbidden kb.axioms (facts_in kb S) ⊎ AreConsistent kb S
  part_decided = elim (forbidden_or_consistent kb.axioms (facts_at kb.facts numbers)) [
    | inl (rule, q, m, d, e) ↦ inl (rule, q, m, d, Entails-mono kb.axioms _ _ there q [] e)
    | inr c ↦ inr (Consistent-mono kb.axioms _ _ back c)
  ]

  -- it entails a tuple or not
  pub part_entails_or_not : (q : Query) (tuple : List ℕ) → FactsEntail kb S q tuple ⊎ (¬ FactsEntail kb S q tuple)
  part_entails_or_not q tuple = elim (entails_or_not kb.axioms (facts_at kb.facts numbers) q tuple) [
    | inl e ↦ inl (Entails-mono kb.axioms _ _ there q tuple e)
    | inr n ↦ inr (λ e. n (Entails-mono kb.axioms _ _ back q tuple e))
  ]

pub one_decided : (kb : Knowledge) (i : ℕ) → EntailsForbidden kb.axioms (facts_in kb (Only i)) ⊎ AreConsistent kb (Only i)
one_decided kb i = part_decided kb (Only i) (i ∷ []) (λ l. (
  (λ e. subst (Contains (i ∷ [])) (sym e) (Contains-head i [])),
  (λ c. elim (Contains-cases i [] l c) [ inl e ↦ sym e | inr n ↦ absurd (Contains-nil l n) ]),
))

pub two_decided : (kb : Knowledge) (i j : ℕ) → EntailsForbidden kb.axioms (facts_in kb (Both i j)) ⊎ AreConsistent kb (Both i j)
two_decided kb i j = part_decided kb (Both i j) (i ∷ j ∷ []) (λ l. (there l, back l))
  where
    there : (l : ℕ) → Both i j l → Contains (i ∷ j ∷ []) l
    there l (inl e) = subst (Contains (i ∷ j ∷ [])) (sym e) (Contains-head i (j ∷ []))
    there l (inr e) = subst (Contains (i ∷ j ∷ [])) (sym e) (Contains-later i (j ∷ []) j (Contains-head j []))

    back : (l : ℕ) → Contains (i ∷ j ∷ []) l → Both i j l
    back l c = elim (Contains-cases i (j ∷ []) l c) [
      | inl e ↦ inl (sym e)
      | inr d ↦ elim (Contains-cases j [] l d) [ inl e ↦ inr (sym e) | inr n ↦ absurd (Contains-nil l n) ]
    ]

-- ---- the conflicts are told

-- whether the first holds
abbrev is_first : {P Q : Type 0} → P ⊎ Q → Bool
is_first (inl p) = true
is_first (inr q) = false

first_iff : {P Q : Type 0} (C : Type 0) → (P → C) → (Q → ¬ C) → (w : P ⊎ Q) → IsTrue (is_first w) ↔ C
first_iff C f g (inl p) = ((λ t. f p), (λ c. refl))
first_iff C f g (inr q) = ((λ t. absurd (true≢false (sym t))), (λ c. absurd (g q c)))

conflict_or_not : (kb : Knowledge) (i j : ℕ) → Conflict kb i j ⊎ (¬ Conflict kb i j)
conflict_or_not kb i j = go (cases_eq i j) (one_decided kb i) (one_decided kb j) (two_decided kb i j)
  where
    go : (i ≡ j) ⊎ (i ≡ j → ⊥) → EntailsForbidden kb.axioms (facts_in kb (Only i)) ⊎ AreConsistent kb (Only i)
        → EntailsForbidden kb.axioms (facts_in kb (Only j)) ⊎ AreConsistent kb (Only j)
        → EntailsForbidden kb.axioms (facts_in kb (Both i j)) ⊎ AreConsistent kb (Both i j) → Conflict kb i j ⊎ (¬ Conflict kb i j)
    go (inl e) w u v = inr (λ c. c.different e)
    go (inr n) (inl f) u v = inr (λ c. forbidden_inconsistent kb.axioms _ f c.left)
    go (inr n) (inr l) (inl f) v = inr (λ c. forbidden_inconsistent kb.axioms _ f c.right)
    go (inr n) (inr l) (inr r) (inr t) = inr (λ c. c.together t)
    go (inr n) (inr l) (inr r) (inl f) = inl (record { different = n; left = l; right = r; together = forbidden_inconsistent kb.axioms _ f })

-- the conflicts of each table can be told
pub conflicts_told : (kb : Knowledge) → (own : ℕ → Bool) × (clash : ℕ → ℕ → Bool) × TellConflicts kb own clash
conflicts_told kb = (
  (λ i. is_first (one_decided kb i)),
  (λ i j. is_first (conflict_or_not kb i j)),
  record {
    own_iff = λ i l. first_iff (IsSelfInconsistent kb i) (forbidden_inconsistent kb.axioms _) (λ c n. n c) (one_decided kb i);
    clash_iff = λ i j l k. first_iff (Conflict kb i j) (λ c. c) (λ n. n) (conflict_or_not kb i j);
  },
)
