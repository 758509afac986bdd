-- The head and the two blocks of the worked report are right, and what its members match with.
use Rattle.std.proofs.Common.{◌≡◌, ℕ, zero, suc, ◌<◌, inl, inr, [], ◌∷◌, Contains, Some, slice_get, refl, sym, subst, ap, ◌∙◌, arith}
use Rattle.std.proofs.lemmas.List.Elements.{All-from_recursion}
use Rattle.std.proofs.lemmas.List.Kept.{AllPairs-cons}
use Rattle.cq_terms.specs.declared.facts.Fact.{Fact}
use Rattle.cq_terms.specs.declared.facts.Fact.TheVariants as fact
use Rattle.cq_terms.specs.declared.query.Term.TheVariants.{Var}
use Rattle.cq_terms.specs.declared.query.QAtom.TheVariants as atom
use Rattle.cq_terms.specs.Query.{Query}
use Rattle.cq_meaning.specs.Chase.{Named}
use Rattle.cq_meaning.specs.Entailment.{HasImage}
use Rattle.cq_terms.specs.Lists.{IsAscending}
use Rattle.cq_meaning.specs.Examples.{prof_is_staff, student_is_not_staff, staff_register, staff_query}
use Rattle.cq_meaning.proofs.Members.{Contains-head, Contains-later, Contains-cases}
use Rattle.report_text.specs.declared.line.Origin.TheVariants as origin
use Rattle.report_rules.specs.Told.{block_of}
use Rattle.report_rules.specs.Order.{IsNegativeAt}
use Rattle.report_rules.specs.Blocks.{IsClosedBlock}
use Rattle.report_rules.specs.Accepted.{Right}
use Rattle.report_laws.specs.Examples.{prof_query, staff_and_student, prof_and_student}
use Rattle.report_laws.proofs.ListLemmas.{only_one}
use Rattle.report_laws.proofs.StaffTable.{no_pairs}
use Rattle.report_laws.proofs.StaffBlocks.{query_closed, first_is_positive}
use Rattle.report_laws.proofs.StaffLines.{about, l1, l2, l3, l4, l5, b1, b2, b3, b4}

-- ---- the head and the blocks

pub r1 : Right about [] l1
r1 = record {
  order = refl;
  query_left = tt;
  closed = λ o e. absurd (cc);
  complete = tt;
  own =
      record { axioms_are = refl; facts_are = refl; version_is = refl };
}

pub r2 : Right about b1 l2
r2 = record { order = refl; query_left = λ e. absurd (cc); closed = λ o e. absurd (cc); complete = λ e. absurd (cc); own = refl }

pub r3 : Right about b2 l3
r3 = record {
  order = inl refl;
  query_left = λ e. absurd (cc);
  closed = λ o e. inl (cc);
  complete = λ e. absurd (cc);
  own = (
    (
      staff_query,
      refl,
      (
        prof_is_staff,
        record { head = Var 0 ∷ []; body = atom.Concept 0 (Var 0) ∷ [] },
        refl,
        (atom.Concept 1 (Var 0), atom.Concept 0 (Var 0), refl, (Var 0, refl, refl), refl),
        refl,
      ),
    ),
    λ m. let h = ap (λ (q : Query). q.body) (only_one staff_query prof_query m) in absurd (cc),
  );
}

pub r4 : Right about b3 l4
r4 = record {
  order = inr (
    omega arith,
    (student_is_not_staff, staff_and_student, refl, refl),
    λ i l h. let e : i ≡ 0 = omega arith in
        subst (λ k. ¬ IsNegativeAt staff_register.axioms k) (sym e) first_is_positive,
  );
  query_left = tt;
  closed = λ o e. inr (let h : origin.Query ≡ o = cc in subst (λ k. IsClosedBlock staff_register.axioms (block_of k b3)) h query_closed);
  complete = tt;
  own = (student_is_not_staff, refl, refl);
}

pub r5 : Right about b4 l5
r5 = record {
  order = inl refl;
  query_left = tt;
  closed = λ o e. inl (cc);
  complete = tt;
  own = (
    (
      staff_and_student,
      refl,
      (
        prof_is_staff,
        record { head = []; body = atom.Concept 0 (Var 0) ∷ atom.Concept 2 (Var 0) ∷ [] },
        refl,
        (atom.Concept 1 (Var 0), atom.Concept 0 (Var 0), refl, (Var 0, refl, refl), refl),
        refl,
      ),
    ),
    λ m. let h = ap (λ (q : Query). q.body) (only_one staff_and_student prof_and_student m) in absurd (cc),
  );
}

-- ---- images

pub both_ascend : IsAscending (0 ∷ 1 ∷ [])
both_ascend = AllPairs-cons (λ a b. a < b) 0 (1 ∷ []) (All-from_recursion (λ b. 0 < b) (1 ∷ []) (omega arith, tt)) (λ i j d a b. absurd (no_pairs i j a b))

pub one_ascends : (x : ℕ) → IsAscending (x ∷ [])
one_ascends x i j d a b = absurd (no_pairs i j a b)

-- Prof and Student have the two facts as their image
pub both_facts : HasImage staff_register.facts prof_and_student [] (0 ∷ 1 ∷ [])
both_facts = record {
  ascending = both_ascend;
  match = (
    fact.Concept 0 0 ∷ fact.Concept 2 0 ∷ [],
    (
      (λ i. 0),
      tt,
      (
        (Contains-head (fact.Concept 0 0) (fact.Concept 2 0 ∷ []), (Named 0, refl, refl)),
        ((Contains-later (fact.Concept 0 0) (fact.Concept 2 0 ∷ []) (fact.Concept 2 0) (Contains-head (fact.Concept 2 0) []), (Named 0, refl, refl)), tt),
      ),
    ),
    λ i. (to i, λ h. from i h.0 h.2),
  );
}
  where
    to : (i : ℕ) → Contains (0 ∷ 1 ∷ []) i → (f : Fact) × Contains (fact.Concept 0 0 ∷ fact.Concept 2 0 ∷ []) f × (slice_get staff_register.facts i ≡ Some f)
    to i m = elim (Contains-cases 0 (1 ∷ []) i m) [
      | inl e ↦ (
        fact.Concept 0 0,
        Contains-head (fact.Concept 0 0) (fact.Concept 2 0 ∷ []),
        subst (λ k. slice_get staff_register.facts k ≡ Some (fact.Concept 0 0)) e refl,
      )
      | inr n ↦ (
        fact.Concept 2 0,
        Contains-later (fact.Concept 0 0) (fact.Concept 2 0 ∷ []) (fact.Concept 2 0) (Contains-head (fact.Concept 2 0) []),
        subst (λ k. slice_get staff_register.facts k ≡ Some (fact.Concept 2 0)) (only_one 1 i n) refl,
      )
    ]

    from : (i : ℕ) (f : Fact) → slice_get staff_register.facts i ≡ Some f → Contains (0 ∷ 1 ∷ []) i
    from zero f e = Contains-head 0 (1 ∷ [])
    from (suc zero) f e = Contains-later 0 (1 ∷ []) 1 (Contains-head 1 [])
    from (suc (suc i)) f e = absurd (cc)

-- Prof has the first fact as its image
pub first_fact : HasImage staff_register.facts prof_query (0 ∷ []) (0 ∷ [])
first_fact = record {
  ascending = one_ascends 0;
  match = (
    fact.Concept 0 0 ∷ [],
    ((λ i. 0), (refl, tt), ((Contains-head (fact.Concept 0 0) (fact.Concept 2 0 ∷ []), (Named 0, refl, refl)), tt)),
    λ i. (to i, λ h. from i h.0 (only_one (fact.Concept 0 0) h.0 h.1) h.2),
  );
}
  where
    to : (i : ℕ) → Contains (0 ∷ []) i → (f : Fact) × Contains (fact.Concept 0 0 ∷ []) f × (slice_get staff_register.facts i ≡ Some f)
    to i m = (
      fact.Concept 0 0,
      Contains-head (fact.Concept 0 0) [],
      subst (λ k. slice_get staff_register.facts k ≡ Some (fact.Concept 0 0)) (only_one 0 i m) refl,
    )

    from : (i : ℕ) (f : Fact) → fact.Concept 0 0 ≡ f → slice_get staff_register.facts i ≡ Some f → Contains (0 ∷ []) i
    from zero f d e = Contains-head 0 []
    from (suc zero) f d e = absurd (let h : fact.Concept 2 0 ≡ f = cc in let k : fact.Concept 2 0 ≡ fact.Concept 0 0 = h ∙ sym d in cc)
    from (suc (suc i)) f d e = absurd (cc)
