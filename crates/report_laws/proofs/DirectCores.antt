-- In mode `all` each consistent list has a direct core, and a fact in no conflict has its present literal as a base clause.
use Rattle.std.proofs.Common.{ℕ, ◌<◌, ◌⊎◌, inl, inr, List, [], ◌∷◌, length, Contains, IsTrue, refl, sym, subst, ap, ◌∙◌, arith}
use Rattle.cq_terms.specs.declared.facts.Repairs.{Repairs}
use Rattle.cq_terms.specs.declared.facts.Repairs.TheVariants as modes
use Rattle.cq_terms.specs.Knowledge.{Knowledge}
use Rattle.cq_meaning.specs.Conflicts.{Only, In, AreConsistent, Conflict, IsSelfInconsistent}
use Rattle.cq_meaning.specs.Repairs.{IsBetter}
use Rattle.cq_meaning.proofs.Members.{Contains-one}
use Rattle.cq_meaning.proofs.Extension.{AreConsistent-mono, Conflict-sym}
use Rattle.cq_meaning.proofs.ByLists.{Conflict-within}
use Rattle.cq_meaning.proofs.Ascending.{with_property}
use Rattle.cq_meaning.proofs.Listed.{all_or_some}
use Rattle.priority_graph.specs.Split.{has}
use Rattle.priority_graph.specs.Inputs.{AreRivals}
use Rattle.priority_graph.proofs.SplitLemmas.{has_true, has_there}
use Rattle.repair_clauses.specs.BaseClauses.{present, absent}
use Rattle.report_rules.specs.Clauses.{IsBaseClause}
use Rattle.report_rules.specs.TryRules.{HasDirectCore}
use Rattle.report_laws.proofs.ListLemmas.{only_one}
use Rattle.report_laws.proofs.BaseClauseLemmas.{means}
use Rattle.report_laws.proofs.ConflictsExist.{conflict_or_not, priority_exists}

-- ---- direct cores in mode `all`

-- a fact conflicts with one of the list
abbrev IsRival : Knowledge → List ℕ → ℕ → Type 0
IsRival kb facts j = (i : ℕ) × Contains facts i × Conflict kb i j

module _ (kb : Knowledge) (facts : List ℕ) (within : (i : ℕ) → Contains facts i → i < length kb.facts) where
  rival_or_not : (j : ℕ) → IsRival kb facts j ⊎ (IsRival kb facts j → ⊥)
  rival_or_not j = elim (all_or_some (λ i. Conflict kb i j → ⊥) (λ i. Conflict kb i j) (λ i. elim (conflict_or_not kb i j) [ inl c ↦ inr c | inr n ↦ inl n ])
      facts) [
        | inl none ↦ inr (λ (i, m, c). none i m c)
        | inr w ↦ inl w
      ]

  -- the list of the facts that conflict with one of these
  rivals : (dropped : List ℕ) × AreRivals kb facts dropped
  rivals =
      let w = with_property (IsRival kb facts) rival_or_not (length kb.facts) in
      (w.0, λ j. ((λ m. ((w.2 j).0 m).1), (λ (i, m, c). (w.2 j).1 (Conflict-within kb j i (Conflict-sym kb i j c), (i, m, c)))))

  -- in mode `all` a consistent list has a direct core
  pub direct_in_all : AreConsistent kb (Contains facts) → HasDirectCore kb modes.All facts
  direct_in_all c = (
    rivals.0,
    rivals.1,
    record {
      consistent = AreConsistent-mono kb (In (has facts)) (Contains facts) (λ i t. has_there facts i t) c;
      drops = λ i j il jl t w. has_true rivals.0 j ((rivals.1 j).1 (i, has_there facts i t, w));
      blocked = λ j jl t. blocked j ((rivals.1 j).0 (has_there rivals.0 j t));
    },
  )
    where
      blocked : (j : ℕ) → IsRival kb facts j → IsSelfInconsistent kb j
          ⊎ ((i : ℕ) × (i < length kb.facts) × IsTrue (has facts i) × Conflict kb j i × ¬ IsBetter kb modes.All j i)
      blocked j (i, m, w) = inr (i, within i m, has_true facts i m, Conflict-sym kb i j w, λ b. b.ranked refl)

-- ---- a fact in no conflict has a unit base clause

-- it is present where it is consistent alone
pub base_present : (kb : Knowledge) (mode : Repairs) (i : ℕ) → i < length kb.facts → AreConsistent kb (Only i) → ((j : ℕ) → Conflict kb i j → ⊥)
    → IsBaseClause kb mode (present i ∷ [])
base_present kb mode i il alone none =
    let (p, of) = priority_exists kb mode in
    let m = means kb mode p of in
    let below : i < p.facts = subst (λ n. i < n) (sym of.facts) il in
    let free : ¬ Contains p.own i = λ o. ((m.own i).0 o).1 alone in (
      p,
      of,
      inr (
        i,
        below,
        inr (
          free,
          record {
            ascending = λ a b d k l. absurd (past a b k l);
            exact = λ l. (
              (λ k. (i, inl refl, sym (only_one (present i) l k))),
              (λ (f, s, e). Contains-one (present i) l (elim s [ inl h ↦ e ∙ ap present h | inr b ↦ absurd (none f ((m.conflict i f).0 b.0)) ])),
            );
          },
        ),
      ),
    )
  where
    past : (a b : ℕ) → a < b → b < 1 → ⊥
    past a b k l = omega arith

-- and absent where it is self-inconsistent
pub base_absent : (kb : Knowledge) (mode : Repairs) (i : ℕ) → i < length kb.facts → IsSelfInconsistent kb i → IsBaseClause kb mode (absent i ∷ [])
base_absent kb mode i il own =
    let (p, of) = priority_exists kb mode in
    (p, of, inr (i, subst (λ n. i < n) (sym of.facts) il, inl (((means kb mode p of).own i).1 (il, own), refl)))
