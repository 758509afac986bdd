-- The staff register: the two facts conflict, and Staff(ann) is brave, neither AR nor IAR.
use Rattle.std.proofs.Common.{◌≡◌, ℕ, zero, suc, ◌⊎◌, inl, inr, [], ◌∷◌, Contains, refl, sym, subst, arith, Some, slice_get, Bool, eqb, ◌<◌, eqb-true}
use Rattle.std.proofs.Common.{true≢false, IsFalse}
use Rattle.cq_terms.specs.declared.axioms.Axiom.{Axiom}
use Rattle.cq_terms.specs.declared.facts.Fact.{Fact}
use Rattle.cq_terms.specs.declared.facts.Fact.TheVariants as fact
use Rattle.cq_terms.specs.declared.facts.Repairs.TheVariants as mode
use Rattle.cq_meaning.specs.Chase.{Node, Named, Atom, ConceptAtom, atom_of, InStage, Derives, IsConsequence, Violates}
use Rattle.cq_meaning.specs.Conflicts.{facts_in, Only, In, AreConsistent, FactsEntail, Conflict}
use Rattle.cq_meaning.specs.Repairs.{IsChosen, IsBrave, IsAr, IsIar}
use Rattle.cq_meaning.specs.Examples.{prof_is_staff, student_is_not_staff, staff_register, staff_query}
use Rattle.std.proofs.lemmas.List.Elements.{All-contains, All-from_recursion}
use Rattle.cq_meaning.proofs.Members.{Contains-head, Contains-later}
use Rattle.cq_meaning.proofs.Extension.{AreConsistent-mono, Conflict-sym, facts_in-mono}
use Rattle.cq_meaning.proofs.Chosen.{chosen_from_local}
use Rattle.cq_meaning.proofs.Stages.{InStage-keeps, InStage-mono}
use Rattle.cq_meaning.proofs.Single.{Entails-mono}

-- what holds of each axiom of the staff_register
each : (P : Axiom → Type 0) → P prof_is_staff → P student_is_not_staff → (rule : Axiom) → Contains staff_register.axioms rule → P rule
each P p q rule m = All-contains P staff_register.axioms rule (All-from_recursion P staff_register.axioms (p, (q, tt))) m

has_prof : Contains staff_register.axioms prof_is_staff
has_prof = Contains-head prof_is_staff (student_is_not_staff ∷ [])

has_student : Contains staff_register.axioms student_is_not_staff
has_student = Contains-later prof_is_staff (student_is_not_staff ∷ []) student_is_not_staff (Contains-head student_is_not_staff [])

-- a consequence under the register's axioms is a Staff atom, of what is in Prof
register_derives : (x y : Atom) → Derives staff_register.axioms x y → (t : Node) × (x ≡ ConceptAtom 0 t) × (y ≡ ConceptAtom 1 t)
register_derives x y (rule, m, c) = each (λ r. IsConsequence r x y → (t : Node) × (x ≡ ConceptAtom 0 t) × (y ≡ ConceptAtom 1 t)) (λ d. d) (λ d. absurd d) rule
    m c

-- the first fact, and the second
first : (f : Fact) → facts_in staff_register (Only 0) f → fact.Concept 0 0 ≡ f
first f (i, e, g) = let h : slice_get staff_register.facts 0 ≡ Some f = subst (λ i. slice_get staff_register.facts i ≡ Some f) e g in cc

second : (f : Fact) → facts_in staff_register (Only 1) f → fact.Concept 2 0 ≡ f
second f (i, e, g) = let h : slice_get staff_register.facts 1 ≡ Some f = subst (λ i. slice_get staff_register.facts i ≡ Some f) e g in cc

-- the chase of Prof(ann) has Prof(ann) and Staff(ann) alone
abbrev IsProfOrStaff : Atom → Type 0
IsProfOrStaff x = (x ≡ ConceptAtom 0 (Named 0)) ⊎ (x ≡ ConceptAtom 1 (Named 0))

prof_chase : (k : ℕ) (x : Atom) → InStage staff_register.axioms (facts_in staff_register (Only 0)) k x → IsProfOrStaff x
prof_chase = InStage-keeps staff_register.axioms (facts_in staff_register (Only 0)) IsProfOrStaff
    (λ f p. subst (λ g. IsProfOrStaff (atom_of g)) (first f p) (inl refl))
    (λ x y h w. go x y h (register_derives x y w))
  where
    go : (x y : Atom) → IsProfOrStaff x → (t : Node) × (x ≡ ConceptAtom 0 t) × (y ≡ ConceptAtom 1 t) → IsProfOrStaff y
    go x y (inl e) (t, d, f) = inr (cc)
    go x y (inr e) (t, d, f) = absurd (cc)

-- the chase of Student(ann) has Student(ann) alone
student_chase : (k : ℕ) (x : Atom) → InStage staff_register.axioms (facts_in staff_register (Only 1)) k x → x ≡ ConceptAtom 2 (Named 0)
student_chase = InStage-keeps staff_register.axioms (facts_in staff_register (Only 1)) (λ x. x ≡ ConceptAtom 2 (Named 0))
    (λ f p. subst (λ g. atom_of g ≡ ConceptAtom 2 (Named 0)) (second f p) refl)
    (λ x y h w. go x y h (register_derives x y w))
  where
    go : (x y : Atom) → x ≡ ConceptAtom 2 (Named 0) → (t : Node) × (x ≡ ConceptAtom 0 t) × (y ≡ ConceptAtom 1 t) → y ≡ ConceptAtom 2 (Named 0)
    go x y e (t, d, f) = absurd (cc)

pub prof_alone : AreConsistent staff_register (Only 0)
prof_alone k rule m v = each (λ r. Violates staff_register.axioms (facts_in staff_register (Only 0)) k r → ⊥) (λ v. v)
    (λ v. go v.0 v.1.0 v.1.2 (prof_chase k v.1.0 v.1.1)) rule m v
  where
    go : (t : Node) (x : Atom) → x ≡ ConceptAtom 2 t → IsProfOrStaff x → ⊥
    go t x e (inl d) = cc
    go t x e (inr d) = cc

student_alone : AreConsistent staff_register (Only 1)
student_alone k rule m v = each (λ r. Violates staff_register.axioms (facts_in staff_register (Only 1)) k r → ⊥) (λ v. v)
    (λ v. go v.0 v.2.0 v.2.2 (student_chase k v.2.0 v.2.1)) rule m v
  where
    go : (t : Node) (x : Atom) → x ≡ ConceptAtom 1 t → x ≡ ConceptAtom 2 (Named 0) → ⊥
    go t x e d = cc

-- the two facts of the staff_register conflict
pub staff_conflict : Conflict staff_register 0 1
staff_conflict = record {
  different = λ e. omega arith;
  left = prof_alone;
  right = student_alone;
  together = λ c. c 1 student_is_not_staff has_student (
    Named 0,
    (ConceptAtom 2 (Named 0), inl (fact.Concept 2 0, (1, inr refl, refl), refl), refl),
    (
      ConceptAtom 1 (Named 0),
      inr (ConceptAtom 0 (Named 0), (fact.Concept 0 0, (0, inl refl, refl), refl), (prof_is_staff, has_prof, (Named 0, refl, refl))),
      refl,
    ),
  );
}

-- Staff(ann) is in stage 1 of each set that has Prof(ann)
staff_in : (S : ℕ → Type 0) → S 0 → InStage staff_register.axioms (facts_in staff_register S) 1 (ConceptAtom 1 (Named 0))
staff_in S s = inr (ConceptAtom 0 (Named 0), (fact.Concept 0 0, (0, s, refl), refl), (prof_is_staff, has_prof, (Named 0, refl, refl)))

-- Prof(ann) entails that ann is in Staff
pub staff_entailed : (S : ℕ → Type 0) → S 0 → FactsEntail staff_register S staff_query (0 ∷ [])
staff_entailed S s =
    (1, ((λ i. Named 0), (refl, tt), ((ConceptAtom 1 (Named 0), staff_in S s, (Named 0, refl, refl)), tt)))

abbrev pub just_prof : ℕ → Bool
just_prof i = eqb i 0

-- Prof(ann) alone is a chosen repair in either mode without priorities
just_prof_chosen : IsChosen staff_register mode.All just_prof
just_prof_chosen = chosen_from_local staff_register mode.All just_prof (record {
  consistent = AreConsistent-mono staff_register (In just_prof) (Only 0) (λ i e. eqb-true i 0 e) prof_alone;
  outside = λ i il f c. let e : i ≡ 1 = is_one i il f in
      (0, omega arith, refl, subst (λ l. Conflict staff_register l 0) (sym e) (Conflict-sym staff_register 0 1 staff_conflict), λ b. b.ranked refl);
})
  where
    is_one : (i : ℕ) → i < 2 → IsFalse (just_prof i) → i ≡ 1
    is_one zero l f = absurd (true≢false f)
    is_one (suc i) l f = omega arith

-- Staff(ann) is brave: a repair that holds Prof(ann) entails it
pub staff_brave : IsBrave staff_register mode.All staff_query (0 ∷ [])
staff_brave = (just_prof, just_prof_chosen, staff_entailed (In just_prof) refl)

-- neither AR nor IAR: the repair with Student(ann) alone doesn't entail it

abbrev just_student : ℕ → Bool
just_student i = eqb i 1

just_student_chosen : IsChosen staff_register mode.All just_student
just_student_chosen = chosen_from_local staff_register mode.All just_student (record {
  consistent = AreConsistent-mono staff_register (In just_student) (Only 1) (λ i e. eqb-true i 1 e) student_alone;
  outside = λ i il f c. let e : i ≡ 0 = is_zero i il f in
      (1, omega arith, refl, subst (λ l. Conflict staff_register l 1) (sym e) staff_conflict, λ b. b.ranked refl);
})
  where
    is_zero : (i : ℕ) → i < 2 → IsFalse (just_student i) → i ≡ 0
    is_zero zero l f = refl
    is_zero (suc zero) l f = absurd (true≢false f)
    is_zero (suc (suc i)) l f = absurd (omega arith)

-- Student(ann) doesn't entail that ann is in Staff
not_staff : FactsEntail staff_register (In just_student) staff_query (0 ∷ []) → ⊥
not_staff (k, (v, h, ((x, s, (t, b, e)), u))) =
    let s' = InStage-mono staff_register.axioms _ _ (facts_in-mono staff_register (In just_student) (Only 1) (λ i p. eqb-true i 1 p)) k x s in
    let d = student_chase k x s' in cc

pub staff_not_ar : ¬ IsAr staff_register mode.All staff_query (0 ∷ [])
staff_not_ar h = not_staff (h just_student just_student_chosen)

pub staff_not_iar : ¬ IsIar staff_register mode.All staff_query (0 ∷ [])
staff_not_iar h = not_staff (Entails-mono staff_register.axioms _ _
    (facts_in-mono staff_register _ (In just_student) (λ i all. all just_student just_student_chosen)) staff_query (0 ∷ []) h)
