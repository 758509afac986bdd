-- The staff register with Prof(ann) better than Student(ann): every chosen repair has Prof(ann).
use Rattle.std.proofs.Common.{◌≡◌, ℕ, zero, suc, ◌<◌, inl, inr, [], ◌∷◌, refl, arith, Bool, eqb-true, true≢false, IsTrue, IsFalse}
use Rattle.std.proofs.lemmas.Bool.{cases_Bool}
use Rattle.cq_terms.specs.declared.facts.Repairs.TheVariants as mode
use Rattle.cq_meaning.specs.Conflicts.{Only, In}
use Rattle.cq_meaning.specs.Repairs.{IsBetter, IsChosen, IsIar}
use Rattle.cq_meaning.proofs.Extension.{AreConsistent-mono}
use Rattle.cq_meaning.specs.Examples.{staff_query, ranked_register}
use Rattle.cq_meaning.proofs.StaffExample.{staff_conflict, prof_alone, just_prof, staff_entailed}

pareto_not_all : mode.Pareto ≡ mode.All → ⊥
pareto_not_all e = cc

-- Prof(ann) is better than Student(ann)
prof_better : IsBetter ranked_register mode.Pareto 0 1
prof_better = record {
  ranked = pareto_not_all;
  listed = (0, omega arith, refl);
  conflict =
      record { different = staff_conflict.different; left = staff_conflict.left; right = staff_conflict.right; together = staff_conflict.together };
}

-- a chosen repair has Prof(ann)
has_prof : (R : ℕ → Bool) → IsChosen ranked_register mode.Pareto R → IsTrue (R 0)
has_prof R c = elim (cases_Bool (R 0)) [
  | inl t ↦ t
  | inr f ↦ absurd (c.unimproved just_prof (record {
    consistent = AreConsistent-mono ranked_register (In just_prof) (Only 0) (λ i e. eqb-true i 0 e) prof_alone;
    gain = (0, omega arith, refl, f, better);
  }))
]
  where
    better : (j : ℕ) → j < 2 → IsTrue (R j) → IsFalse (just_prof j) → IsBetter ranked_register mode.Pareto 0 j
    better zero l t n = absurd (true≢false n)
    better (suc zero) l t n = prof_better
    better (suc (suc j)) l t n = absurd (omega arith)

pub ranked_iar : IsIar ranked_register mode.Pareto staff_query (0 ∷ [])
ranked_iar = staff_entailed (λ i. (R : ℕ → Bool) → IsChosen ranked_register mode.Pareto R → IsTrue (R i)) has_prof
