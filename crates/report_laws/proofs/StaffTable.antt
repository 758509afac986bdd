-- The staff register: its conflicts, its candidate with the one cause, and two cores.
use Rattle.std.proofs.Common.{◌≡◌, ℕ, zero, suc, ◌<◌, inl, inr, List, [], ◌∷◌, Contains, Some, slice_get, true≢false, refl, sym, subst, ap, ◌∙◌, arith}
use Rattle.std.proofs.lemmas.Bool.{cases_Bool}
use Rattle.std.proofs.lemmas.List.Elements.{All-contains, All-from_recursion}
use Rattle.cq_terms.specs.declared.axioms.Axiom.{Axiom}
use Rattle.cq_terms.specs.declared.facts.Fact.{Fact}
use Rattle.cq_terms.specs.declared.facts.Fact.TheVariants as fact
use Rattle.cq_terms.specs.declared.facts.Repairs.TheVariants as mode
use Rattle.cq_meaning.specs.Chase.{Node, Named, Atom, ConceptAtom, atom_of, InStage, Derives, IsConsequence}
use Rattle.cq_meaning.specs.Conflicts.{facts_in, Only, Both, In, AreConsistent, FactsEntail, Conflict, AreConflicts}
use Rattle.cq_meaning.specs.Cores.{IsCore}
use Rattle.cq_meaning.specs.Repairs.{IsBetter}
use Rattle.cq_terms.specs.Lists.{IsAscending}
use Rattle.cq_meaning.specs.Candidates.{AreCandidates, AreCauses, IsCause, Every, Without}
use Rattle.cq_meaning.specs.Examples.{prof_is_staff, student_is_not_staff, staff_register, staff_query}
use Rattle.cq_meaning.proofs.Members.{Contains-head, Contains-later, Contains-nil, Contains-one}
use Rattle.cq_meaning.proofs.Extension.{AreConsistent-mono, Conflict-sym}
use Rattle.cq_meaning.proofs.ByLists.{Conflict-within}
use Rattle.cq_meaning.proofs.Stages.{InStage-keeps}
use Rattle.cq_meaning.proofs.Single.{Entails-mono}
use Rattle.priority_graph.specs.Split.{has}
use Rattle.priority_graph.proofs.SplitLemmas.{has_true, has_there}
use Rattle.report_rules.specs.ConflictLists.{AreConflictLists}
use Rattle.report_laws.proofs.ListLemmas.{only_one}
use Rattle.report_laws.proofs.CauseLemmas.{cause_within}

-- ---- lists of one and two

pub no_pairs : (i j : ℕ) → i < j → j < 1 → ⊥
no_pairs i j a b = omega arith

pub below_two : (P : ℕ → Type 0) → P 0 → P 1 → (i : ℕ) → i < 2 → P i
below_two P p q zero l = p
below_two P p q (suc zero) l = q
below_two P p q (suc (suc i)) l = absurd (omega arith)

-- ---- the chase

-- what holds of each axiom
pub each_axiom : (P : Axiom → Type 0) → P prof_is_staff → P student_is_not_staff → (rule : Axiom) → Contains staff_register.axioms rule → P rule
each_axiom P p q rule m = All-contains P staff_register.axioms rule (All-from_recursion P staff_register.axioms (p, (q, tt))) m

pub has_prof : Contains staff_register.axioms prof_is_staff
has_prof = Contains-head prof_is_staff (student_is_not_staff ∷ [])

-- a consequence is a Staff atom, of what is in Prof
follows : (x y : Atom) → Derives staff_register.axioms x y → (t : Node) × (x ≡ ConceptAtom 0 t) × (y ≡ ConceptAtom 1 t)
follows x y (rule, m, c) = each_axiom (λ r. IsConsequence r x y → (t : Node) × (x ≡ ConceptAtom 0 t) × (y ≡ ConceptAtom 1 t)) (λ d. d) (λ d. absurd d) rule m c

abbrev IsOfAnn : Atom → Type 0
IsOfAnn x = (a : ℕ) × (x ≡ ConceptAtom a (Named 0))

of_ann : (i : ℕ) (f : Fact) → slice_get staff_register.facts i ≡ Some f → IsOfAnn (atom_of f)
of_ann zero f e = let h : fact.Concept 0 0 ≡ f = cc in subst (λ g. IsOfAnn (atom_of g)) h (0, refl)
of_ann (suc zero) f e = let h : fact.Concept 2 0 ≡ f = cc in subst (λ g. IsOfAnn (atom_of g)) h (2, refl)
of_ann (suc (suc i)) f e = absurd (cc)

-- all atoms are of ann
whole_chase : (k : ℕ) (x : Atom) → InStage staff_register.axioms (facts_in staff_register Every) k x → IsOfAnn x
whole_chase = InStage-keeps staff_register.axioms (facts_in staff_register Every) IsOfAnn (λ f p. of_ann p.0 f p.2) (λ x y h w. go x y h (follows x y w))
  where
    go : (x y : Atom) → IsOfAnn x → (t : Node) × (x ≡ ConceptAtom 0 t) × (y ≡ ConceptAtom 1 t) → IsOfAnn y
    go x y (a, e) (t, d, f) = (1, cc)

-- the chase of Student(ann) has this alone
student_chase : (k : ℕ) (x : Atom) → InStage staff_register.axioms (facts_in staff_register (Only 1)) k x → x ≡ ConceptAtom 2 (Named 0)
student_chase = InStage-keeps staff_register.axioms (facts_in staff_register (Only 1)) (λ x. x ≡ ConceptAtom 2 (Named 0))
    (λ f p. subst (λ g. atom_of g ≡ ConceptAtom 2 (Named 0)) (second f p) refl)
    (λ x y h w. go x y h (follows x y w))
  where
    second : (f : Fact) → facts_in staff_register (Only 1) f → fact.Concept 2 0 ≡ f
    second f (i, e, g) = let h : slice_get staff_register.facts 1 ≡ Some f = subst (λ i. slice_get staff_register.facts i ≡ Some f) e g in cc

    go : (x y : Atom) → x ≡ ConceptAtom 2 (Named 0) → (t : Node) × (x ≡ ConceptAtom 0 t) × (y ≡ ConceptAtom 1 t) → y ≡ ConceptAtom 2 (Named 0)
    go x y e (t, d, f) = absurd (cc)

-- ---- the candidate

-- a set with Prof(ann) entails that ann is in Staff
staff_entailed : (S : ℕ → Type 0) → S 0 → FactsEntail staff_register S staff_query (0 ∷ [])
staff_entailed S s = (
  1,
  (
    (λ i. Named 0),
    (refl, tt),
    (
      (
        ConceptAtom 1 (Named 0),
        inr (ConceptAtom 0 (Named 0), (fact.Concept 0 0, (0, s, refl), refl), (prof_is_staff, has_prof, (Named 0, refl, refl))),
        (Named 0, refl, refl),
      ),
      tt,
    ),
  ),
)

only_ann : (tuple : List ℕ) → FactsEntail staff_register Every staff_query tuple → 0 ∷ [] ≡ tuple
only_ann [] (k, (v, h, b)) = absurd h
only_ann (c ∷ []) (k, (v, (h, u), ((x, s, (t, b, e)), w))) =
    let (a, d) = whole_chase k x s in
    let n : Named c ≡ Named 0 = cc in
    let m : c ≡ 0 = cc in
    ap (λ z. z ∷ []) (sym m)
only_ann (c ∷ d ∷ tuple) (k, (v, (h, u), b)) = absurd u

pub candidates : AreCandidates staff_register staff_query ((0 ∷ []) ∷ [])
candidates = record {
  entailed = All-from_recursion (FactsEntail staff_register Every staff_query) ((0 ∷ []) ∷ []) (staff_entailed Every tt, tt);
  complete = λ tuple e. subst (Contains ((0 ∷ []) ∷ [])) (only_ann tuple e) (Contains-head (0 ∷ []) []);
  ascending = λ i j d a b. absurd (no_pairs i j a b);
}

-- Student(ann) alone doesn't entail it
not_by_student : FactsEntail staff_register (Only 1) staff_query (0 ∷ []) → ⊥
not_by_student (k, (v, h, ((x, s, (t, b, e)), u))) = let d = student_chase k x s in cc

-- a set without Prof(ann) has nothing but Student(ann)
without_prof : (S : ℕ → Type 0) → (S 0 → ⊥) → FactsEntail staff_register S staff_query (0 ∷ []) → ⊥
without_prof S n e = not_by_student (Entails-mono staff_register.axioms (facts_in staff_register S) (facts_in staff_register (Only 1))
    (λ f (i, s, at). (i, one i s f at, at)) staff_query (0 ∷ []) e)
  where
    one : (i : ℕ) → S i → (f : Fact) → slice_get staff_register.facts i ≡ Some f → i ≡ 1
    one zero s f at = absurd (n s)
    one (suc zero) s f at = refl
    one (suc (suc i)) s f at = absurd (cc)

-- ---- conflicts, causes and cores, where the two facts conflict

module _ (clash : Conflict staff_register 0 1) where
  pub conflicts : AreConflictLists staff_register ((0 ∷ 1 ∷ []) ∷ [])
  conflicts = ([], (0, 1) ∷ [], exact, refl)
    where
      self : (i : ℕ) → i < 2 → AreConsistent staff_register (Only i)
      self = below_two (λ i. AreConsistent staff_register (Only i)) clash.left clash.right

      there : (i j : ℕ) → ◌≡◌ {A = ℕ × ℕ} (0, 1) (i, j) → (i < j) × Conflict staff_register i j
      there i j e =
          let a : 0 ≡ i = ap (λ (p : ℕ × ℕ). p.0) e in
          let b : 1 ≡ j = ap (λ (p : ℕ × ℕ). p.1) e in
          (omega arith, subst (λ x. Conflict staff_register x j) a (subst (Conflict staff_register 0) b clash))

      same : (i j : ℕ) → i ≡ 0 → j ≡ 1 → ◌≡◌ {A = ℕ × ℕ} (i, j) (0, 1)
      same i j a b = cc

      back : (i j : ℕ) → i < j → Conflict staff_register i j → Contains {X = ℕ × ℕ} ((0, 1) ∷ []) (i, j)
      back i j l c =
          let k : j < 2 = Conflict-within staff_register j i (Conflict-sym staff_register i j c) in
          let a : i ≡ 0 = omega arith in
          let b : j ≡ 1 = omega arith in
          Contains-one {X = ℕ × ℕ} (0, 1) (i, j) (same i j a b)

      exact : AreConflicts staff_register [] ((0, 1) ∷ [])
      exact = record {
        owns_exact = λ i. ((λ m. absurd (Contains-nil i m)), (λ w. absurd (w.1 (self i w.0))));
        pairs_exact = λ i j. ((λ m. there i j (only_one {X = ℕ × ℕ} (0, 1) (i, j) m)), (λ w. back i j w.0 w.1));
        owns_ascending = λ i j d a b. absurd (omega arith);
        pairs_ascending = λ i j d a b. absurd (no_pairs i j a b);
      }

  is_cause : IsCause staff_register staff_query (0 ∷ []) (Contains (0 ∷ []))
  is_cause = record {
    consistent = AreConsistent-mono staff_register (Contains (0 ∷ [])) (Only 0) (λ i m. sym (only_one 0 i m)) clash.left;
    entails = staff_entailed (Contains (0 ∷ [])) (Contains-head 0 []);
    least = λ i m e. without_prof (Without i (Contains (0 ∷ []))) (λ h. h.1 (only_one 0 i m)) e;
  }

  cause_is : (cause : List ℕ) → IsAscending cause → IsCause staff_register staff_query (0 ∷ []) (Contains cause) → 0 ∷ [] ≡ cause
  cause_is cause up w = shape cause up zero_in (λ one. clash.together
      (AreConsistent-mono staff_register (Both 0 1) (Contains cause)
      (λ l. elim [ inl e ↦ subst (Contains cause) (sym e) zero_in | inr e ↦ subst (Contains cause) (sym e) one ]) w.consistent))
      (λ i m. cause_within staff_register staff_query (0 ∷ []) cause w i m)
    where
      zero_in : Contains cause 0
      zero_in = elim (cases_Bool (has cause 0)) [
        | inl t ↦ has_there cause 0 t
        | inr f ↦ absurd (without_prof (Contains cause) (λ m. true≢false (sym (has_true cause 0 m) ∙ f)) w.entails)
      ]

      shape : (cause : List ℕ) → IsAscending cause → Contains cause 0 → (Contains cause 1 → ⊥) → ((i : ℕ) → Contains cause i → i < 2) → 0 ∷ [] ≡ cause
      shape [] up m n below = absurd (Contains-nil 0 m)
      shape (x ∷ []) up m n below = ap (λ z. z ∷ []) (sym (only_one x 0 m))
      shape (x ∷ y ∷ cause) up m n below =
          let l : x < y = up 0 1 0 (omega arith) (omega arith) in
          let there : Contains (x ∷ y ∷ cause) y = Contains-later x (y ∷ cause) y (Contains-head y cause) in
          let b : y < 2 = below y there in
          let e : y ≡ 1 = omega arith in
          absurd (n (subst (Contains (x ∷ y ∷ cause)) e there))

  pub causes : AreCauses staff_register staff_query (0 ∷ []) ((0 ∷ []) ∷ [])
  causes = record {
    each = All-from_recursion (λ c. IsAscending c × IsCause staff_register staff_query (0 ∷ []) (Contains c)) ((0 ∷ []) ∷ [])
        (((λ i j d a b. absurd (no_pairs i j a b)), is_cause), tt);
    complete = λ c up w. Contains-one (0 ∷ []) c (sym (cause_is c up w));
    ascending = λ i j d a b. absurd (no_pairs i j a b);
  }

  -- one of the two facts kept, and the other dropped
  one_core : (a b : ℕ) → a < 2 → AreConsistent staff_register (Only a) → Conflict staff_register b a → ((j : ℕ) → j < 2 → Conflict staff_register a j → j ≡ b)
      → IsCore staff_register mode.Pareto (has (a ∷ [])) (has (b ∷ []))
  one_core a b al alone c other = record {
    consistent = AreConsistent-mono staff_register (In (has (a ∷ []))) (Only a) (λ i t. sym (only_one a i (has_there (a ∷ []) i t))) alone;
    drops = λ i j il jl k w. has_true (b ∷ []) j (Contains-one b j
        (other j jl (subst (λ z. Conflict staff_register z j) (sym (only_one a i (has_there (a ∷ []) i k))) w)));
    blocked = λ j jl d. inr (
      a,
      al,
      has_true (a ∷ []) a (Contains-head a []),
      subst (λ z. Conflict staff_register z a) (only_one b j (has_there (b ∷ []) j d)) c,
      no_better j a,
    );
  }
    where
      no_better : (i j : ℕ) → ¬ IsBetter staff_register mode.Pareto i j
      no_better i j b = Contains-nil _ b.listed

  pub core_zero : IsCore staff_register mode.Pareto (has (0 ∷ [])) (has (1 ∷ []))
  core_zero = one_core 0 1 (omega arith) clash.left (Conflict-sym staff_register 0 1 clash)
      (below_two (λ j. Conflict staff_register 0 j → j ≡ 1) (λ c. absurd (c.different refl)) (λ c. refl))

  pub core_one : IsCore staff_register mode.Pareto (has (1 ∷ [])) (has (0 ∷ []))
  core_one = one_core 1 0 (omega arith) clash.right clash (below_two (λ j. Conflict staff_register 1 j → j ≡ 0) (λ c. refl) (λ c. absurd (c.different refl)))

  -- a core that keeps the first drops the second
  pub nothing_dropped : IsCore staff_register mode.Pareto (has (0 ∷ [])) (has []) → ⊥
  nothing_dropped w = true≢false (sym (w.drops 0 1 (omega arith) (omega arith) refl clash))
