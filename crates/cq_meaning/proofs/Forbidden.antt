-- Self-inconsistent facts and conflicts are what the queries of the disjointnesses match with.
use Rattle.std.proofs.Common.{◌≡◌, ℕ, ◌<◌, ◌⊎◌, ◌↔◌, inl, inr, List, [], ◌∷◌, Contains, refl, sym, subst, arith}
use Rattle.std.proofs.lemmas.Bool.{cases_eq}
use Rattle.std.proofs.lemmas.List.Kept.{AllPairs-cons}
use Rattle.cq_terms.specs.declared.axioms.Axiom.{Axiom}
use Rattle.cq_terms.specs.declared.axioms.Axiom.TheVariants.{Sub, Disjoint, SubRole, DisjointRole}
use Rattle.cq_terms.specs.declared.facts.Fact.{Fact}
use Rattle.cq_terms.specs.Knowledge.{Knowledge, AreDistinct}
use Rattle.cq_meaning.specs.Chase.{Consistent}
use Rattle.cq_terms.specs.Lists.{IsAscending}
use Rattle.cq_meaning.specs.Conflicts.{facts_in, Only, Both, AreConsistent, IsSelfInconsistent, Conflict}
use Rattle.cq_meaning.specs.RewritingLaws.{IsForbidden}
use Rattle.cq_meaning.proofs.Members.{Contains-head, Contains-later, Contains-cases, Contains-nil}
use Rattle.cq_meaning.proofs.Stages.{descends}
use Rattle.cq_meaning.proofs.Extension.{AreConsistent-mono}
use Rattle.cq_meaning.proofs.Listed.{member}
use Rattle.cq_meaning.proofs.Ascending.{All-of, ascending_same}
use Rattle.cq_meaning.proofs.Supports.{support_in, support_entails}
use Rattle.cq_meaning.proofs.Decided.{EntailsForbidden, forbidden_inconsistent, one_decided, two_decided}

-- ---- no facts are consistent

none_consistent : (axioms : List Axiom) (F : Fact → Type 0) → ((f : Fact) → F f → ⊥) → Consistent axioms F
none_consistent axioms F none k (Disjoint b c) m (t, (x, s, p), w) = let d = descends axioms F k x s in none d.0 d.1
none_consistent axioms F none k (DisjointRole r q) m (s, t, w, u) = let d = descends axioms F k _ w in none d.0 d.1
none_consistent axioms F none k (Sub b c) m v = v
none_consistent axioms F none k (SubRole r q) m v = v

-- ---- short ascending lists

one_ascends : (i : ℕ) → IsAscending (i ∷ [])
one_ascends i a b d ab l = absurd (omega arith)

two_ascend : (i j : ℕ) → i < j → IsAscending (i ∷ j ∷ [])
two_ascend i j ij = AllPairs-cons (λ a b. a < b) i (j ∷ []) (All-of (λ l. i < l) (j ∷ [])
    (λ l c. elim (Contains-cases j [] l c) [ inl e ↦ omega arith | inr n ↦ absurd (Contains-nil l n) ])) (one_ascends j)

-- a list with no number but these, by which of them it has
among_one : (numbers : List ℕ) → IsAscending numbers → (i : ℕ) → ((l : ℕ) → Contains numbers l → l ≡ i) → (numbers ≡ []) ⊎ (numbers ≡ i ∷ [])
among_one [] a i h = inl refl
among_one (x ∷ xs) a i h = inr (ascending_same (x ∷ xs) (i ∷ []) a (one_ascends i) (λ l c. subst (Contains (i ∷ [])) (sym (h l c)) (Contains-head i []))
    (λ l c. elim (Contains-cases i [] l c) [ inl e ↦ subst (Contains (x ∷ xs)) (first l e) (Contains-head x xs) | inr n ↦ absurd (Contains-nil l n) ]))
  where
    first : (l : ℕ) → i ≡ l → x ≡ l
    first l e = let d = h x (Contains-head x xs) in omega arith

among_two : (numbers : List ℕ) → IsAscending numbers → (i j : ℕ) → i < j → ((l : ℕ) → Contains numbers l → (l ≡ i) ⊎ (l ≡ j)) → (numbers ≡ i ∷ j ∷ [])
    ⊎ ((numbers ≡ []) ⊎ ((numbers ≡ i ∷ []) ⊎ (numbers ≡ j ∷ [])))
among_two numbers a i j ij h = go (member cases_eq i numbers) (member cases_eq j numbers)
  where
    one : (m n : ℕ) → (Contains numbers n → ⊥) → ((l : ℕ) → Contains numbers l → (l ≡ m) ⊎ (l ≡ n)) → (numbers ≡ []) ⊎ (numbers ≡ m ∷ [])
    one m n out k = among_one numbers a m (λ l c. elim (k l c) [ inl e ↦ e | inr e ↦ absurd (out (subst (Contains numbers) e c)) ])

    go : Contains numbers i ⊎ (Contains numbers i → ⊥) → Contains numbers j ⊎ (Contains numbers j → ⊥) → (numbers ≡ i ∷ j ∷ [])
        ⊎ ((numbers ≡ []) ⊎ ((numbers ≡ i ∷ []) ⊎ (numbers ≡ j ∷ [])))
    go w (inr n) = elim (one i j n h) [ inl e ↦ inr (inl e) | inr e ↦ inr (inr (inl e)) ]
    go (inr n) (inl d) = elim (one j i n (λ l c. elim (h l c) [ inl e ↦ inr e | inr e ↦ inl e ])) [ inl e ↦ inr (inl e) | inr e ↦ inr (inr (inr e)) ]
    go (inl c) (inl d) = inl (ascending_same numbers (i ∷ j ∷ []) a (two_ascend i j ij)
        (λ l m. elim (h l m) [
          | inl e ↦ subst (Contains (i ∷ j ∷ [])) (sym e) (Contains-head i (j ∷ []))
          | inr e ↦
              subst (Contains (i ∷ j ∷ [])) (sym e) (Contains-later i (j ∷ []) j (Contains-head j []))
        ])
        (λ l m. elim (Contains-cases i (j ∷ []) l m) [
          | inl e ↦ subst (Contains numbers) e c
          | inr k ↦
              elim (Contains-cases j [] l k) [ inl e ↦ subst (Contains numbers) e d | inr n ↦ absurd (Contains-nil l n) ]
        ]))

-- ---- forbidden numbers

module _ (kb : Knowledge) where
  forbidden_not_consistent : (numbers : List ℕ) → IsForbidden kb numbers → ¬ AreConsistent kb (Contains numbers)
  forbidden_not_consistent numbers (rule, q, m, d, s) = forbidden_inconsistent kb.axioms (facts_in kb (Contains numbers))
      (rule, q, m, d, support_entails kb q [] numbers s)

  not_empty : IsForbidden kb [] → ⊥
  not_empty f = forbidden_not_consistent [] f (none_consistent kb.axioms (facts_in kb (Contains [])) (λ g (i, c, e). Contains-nil i c))

  one_forbidden : (i : ℕ) → IsForbidden kb (i ∷ []) → IsSelfInconsistent kb i
  one_forbidden i f c = forbidden_not_consistent (i ∷ []) f (AreConsistent-mono kb (Contains (i ∷ [])) (Only i)
      (λ l k. elim (Contains-cases i [] l k) [ inl e ↦ sym e | inr n ↦ absurd (Contains-nil l n) ]) c)

  two_forbidden : (i j : ℕ) → IsForbidden kb (i ∷ j ∷ []) → ¬ AreConsistent kb (Both i j)
  two_forbidden i j f c = forbidden_not_consistent (i ∷ j ∷ []) f (AreConsistent-mono kb (Contains (i ∷ j ∷ [])) (Both i j)
      (λ l k. elim (Contains-cases i (j ∷ []) l k) [
        | inl e ↦ inl (sym e)
        | inr d ↦
            elim (Contains-cases j [] l d) [ inl e ↦ inr (sym e) | inr n ↦ absurd (Contains-nil l n) ]
      ]) c)

  module _ (distinct : AreDistinct kb.facts) where
    forbidden_in : (S : ℕ → Type 0) → EntailsForbidden kb.axioms (facts_in kb S) → (numbers : List ℕ) × IsForbidden kb numbers × IsAscending numbers
        × ((i : ℕ) → Contains numbers i → S i)
    forbidden_in S (rule, q, m, d, e) = let w = support_in kb q [] distinct S e in (w.0, (rule, q, m, d, w.1), w.1.2.ascending, w.2)

    pub own_is_forbidden : (i : ℕ) → IsSelfInconsistent kb i ↔ IsForbidden kb (i ∷ [])
    own_is_forbidden i = ((λ n. go n (one_decided kb i)), one_forbidden i)
      where
        only : (numbers : List ℕ) → IsForbidden kb numbers → (numbers ≡ []) ⊎ (numbers ≡ i ∷ []) → IsForbidden kb (i ∷ [])
        only numbers f (inl e) = absurd (not_empty (subst (IsForbidden kb) e f))
        only numbers f (inr e) = subst (IsForbidden kb) e f

        go : IsSelfInconsistent kb i → EntailsForbidden kb.axioms (facts_in kb (Only i)) ⊎ AreConsistent kb (Only i) → IsForbidden kb (i ∷ [])
        go n (inr c) = absurd (n c)
        go n (inl f) = let w = forbidden_in (Only i) f in only w.0 w.1 (among_one w.0 w.2 i w.3)

    alone : (i : ℕ) → ¬ IsForbidden kb (i ∷ []) → AreConsistent kb (Only i)
    alone i n = elim (one_decided kb i) [ inl f ↦ absurd (n ((own_is_forbidden i).0 (forbidden_inconsistent kb.axioms _ f))) | inr c ↦ c ]

    pub conflict_is_forbidden : (i j : ℕ) → i < j → Conflict kb i j ↔ ((¬ IsForbidden kb (i ∷ [])) × (¬ IsForbidden kb (j ∷ [])) × IsForbidden kb (i ∷ j ∷ []))
    conflict_is_forbidden i j ij = (
      there,
      λ (n, n', f). record {
        different = λ e. omega arith;
        left = alone i n;
        right = alone j n';
        together =
            two_forbidden i j f;
      },
    )
      where
        pair : Conflict kb i j → (numbers : List ℕ) → IsForbidden kb numbers → (numbers ≡ i ∷ j ∷ [])
            ⊎ ((numbers ≡ []) ⊎ ((numbers ≡ i ∷ []) ⊎ (numbers ≡ j ∷ []))) → IsForbidden kb (i ∷ j ∷ [])
        pair c numbers f (inl e) = subst (IsForbidden kb) e f
        pair c numbers f (inr (inl e)) = absurd (not_empty (subst (IsForbidden kb) e f))
        pair c numbers f (inr (inr (inl e))) = absurd (one_forbidden i (subst (IsForbidden kb) e f) c.left)
        pair c numbers f (inr (inr (inr e))) = absurd (one_forbidden j (subst (IsForbidden kb) e f) c.right)

        both : Conflict kb i j → EntailsForbidden kb.axioms (facts_in kb (Both i j)) ⊎ AreConsistent kb (Both i j) → IsForbidden kb (i ∷ j ∷ [])
        both c (inr t) = absurd (c.together t)
        both c (inl f) = let w = forbidden_in (Both i j) f in pair c w.0 w.1 (among_two w.0 w.2 i j ij w.3)

        there : Conflict kb i j → (¬ IsForbidden kb (i ∷ [])) × (¬ IsForbidden kb (j ∷ [])) × IsForbidden kb (i ∷ j ∷ [])
        there c = ((λ f. one_forbidden i f c.left), (λ f. one_forbidden j f c.right), both c (two_decided kb i j))
