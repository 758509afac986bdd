-- What is said over the priority of a knowledge base is said over the knowledge base.
use Rattle.std.proofs.Common.{◌≡◌, ◌<◌, ◌≤◌, ◌⊎◌, inl, inr, ◌↔◌, ℕ, zero, suc, Bool, true, List, length, refl, sym, ◌∙◌, subst, arith, Contains, All}
use Rattle.std.proofs.lemmas.Bool.{cases_lt}
use Rattle.std.proofs.lemmas.List.Elements.{All-contains}
use Rattle.cq_terms.specs.declared.facts.Repairs.{Repairs}
use Rattle.cq_terms.specs.declared.facts.Repairs.TheVariants as modes
use Rattle.cq_terms.specs.Knowledge.{Knowledge}
use Rattle.cq_terms.specs.Conflicts.{ConflictGraph, own_facts, couples}
use Rattle.cq_meaning.specs.Conflicts as meaning
use Rattle.cq_meaning.specs.Conflicts.{In, Only, AreConsistent, AreConflicts, IsSelfInconsistent, facts_in}
use Rattle.cq_meaning.specs.Repairs as repairs
use Rattle.cq_meaning.specs.Cores as cores
use Rattle.cq_meaning.proofs.Ascending.{All-of}
use Rattle.cq_meaning.proofs.Stages.{Consistent-stable}
use Rattle.cq_meaning.proofs.Extension as extension
use Rattle.cq_meaning.proofs.ByLists.{Conflict-within, consistent_by_lists}
use Rattle.priority_graph.specs.Relations.{Leads, IsAcyclic}
use Rattle.priority_graph.specs.Priority.{Priority, Conflict, IsBetter, Ranks, IsOver}
use Rattle.priority_graph.specs.Cores.{IsFree, IsBlocked, IsCore, ConflictsWith}
use Rattle.priority_graph.specs.Split.{has}
use Rattle.priority_graph.specs.ChosenRepairs.{IsChosen}
use Rattle.priority_graph.specs.Inputs.{IsPriorityOf, MeansTheInput, RankAsPareto, AreRivals, DirectTells}
use Rattle.cq_meaning.specs.ConflictGraphs.{AreConflictsOf}
use Rattle.priority_graph.proofs.SplitLemmas.{has_true, has_there}

-- the listed couples are the conflicts, in both directions
couples_exact : (kb : Knowledge) (own : List ℕ) (pairs : List (ℕ × ℕ)) → AreConflicts kb own pairs → (i j : ℕ)
    → (Contains pairs (i, j) ⊎ Contains pairs (j, i)) ↔ meaning.Conflict kb i j
couples_exact kb own pairs exact i j = (to, λ w. from w (cases_lt i j))
  where
    to : Contains pairs (i, j) ⊎ Contains pairs (j, i) → meaning.Conflict kb i j
    to (inl c) = ((exact.pairs_exact i j).0 c).1
    to (inr c) = extension.Conflict-sym kb j i ((exact.pairs_exact j i).0 c).1

    from : meaning.Conflict kb i j → (i < j) ⊎ (j ≤ i) → Contains pairs (i, j) ⊎ Contains pairs (j, i)
    from w (inl l) = inl ((exact.pairs_exact i j).1 (l, w))
    from w (inr l) = let d = w.different in inr ((exact.pairs_exact j i).1 (omega arith, extension.Conflict-sym kb i j w))

-- paths of a relation, where it is "better"
leads_exact : (kb : Knowledge) (mode : Repairs) (R : ℕ → ℕ → Type 0) → ((i j : ℕ) → R i j ↔ repairs.IsBetter kb mode i j)
    → (n i j : ℕ) → Leads R n i j ↔ repairs.LeadsTo kb mode n i j
leads_exact kb mode R h zero i j = h i j
leads_exact kb mode R h (suc n) i j = (
  (λ w. (w.0, (h i w.0).0 w.1, (leads_exact kb mode R h n w.0 j).0 w.2)),
  (λ w. (w.0, (h i w.0).1 w.1, (leads_exact kb mode R h n w.0 j).1 w.2)),
)

acyclic_exact : (kb : Knowledge) (mode : Repairs) (R : ℕ → ℕ → Type 0) → ((i j : ℕ) → R i j ↔ repairs.IsBetter kb mode i j)
    → IsAcyclic R ↔ repairs.IsAcyclic kb mode
acyclic_exact kb mode R h = (
  (λ a n i w. a n i ((leads_exact kb mode R h n i i).1 w)),
  (λ a n i w. a n i ((leads_exact kb mode R h n i i).0 w)),
)

pub ranks_exact : (kb : Knowledge) (g : ConflictGraph) → AreConflictsOf kb g → (i j : ℕ) → Ranks kb.pairs g i j ↔ repairs.IsBetter kb modes.Pareto i j
ranks_exact kb g of i j = (
  (λ w. record { ranked = not_all; listed = w.0; conflict = (couples_exact kb (own_facts g.clashes) (couples g.clashes) of.exact i j).0 w.1 }),
  (λ w. (w.listed, (couples_exact kb (own_facts g.clashes) (couples g.clashes) of.exact i j).1 w.conflict)),
)
  where
    not_all : modes.Pareto ≡ modes.All → ⊥
    not_all e = cc

pub rank_as_pareto : (kb : Knowledge) (g : ConflictGraph) → AreConflictsOf kb g → RankAsPareto kb g
rank_as_pareto kb g of = record {
  better = ranks_exact kb g of;
  acyclic = acyclic_exact kb modes.Pareto (Ranks kb.pairs g) (ranks_exact kb g of);
}

-- the conflicts of a priority that are those of a knowledge base
over_exact : (kb : Knowledge) (g : ConflictGraph) (p : Priority) → AreConflictsOf kb g → IsOver p g → AreConflicts kb p.own p.couples
over_exact kb g p of over =
    subst (λ (own : List ℕ). AreConflicts kb own p.couples) (sym over.own)
    (subst (λ (pairs : List (ℕ × ℕ)). AreConflicts kb (own_facts g.clashes) pairs) (sym over.couples) of.exact)

pub restricted_is_pareto : (kb : Knowledge) (g : ConflictGraph) (p : Priority) → AreConflictsOf kb g → IsOver p g
    → ((i j : ℕ) → IsBetter p i j ↔ Ranks kb.pairs g i j) → IsPriorityOf kb modes.Pareto p
restricted_is_pareto kb g p of over h = record {
  facts = over.facts ∙ of.facts;
  conflicts = over_exact kb g p of over;
  better = λ i j. ((λ b. (ranks_exact kb g of i j).0 ((h i j).0 b)), (λ w. (h i j).1 ((ranks_exact kb g of i j).1 w)));
}

pub empty_is_all : (kb : Knowledge) (g : ConflictGraph) (p : Priority) → AreConflictsOf kb g → IsOver p g
    → ((i j : ℕ) → ¬ IsBetter p i j) → IsPriorityOf kb modes.All p
empty_is_all kb g p of over h = record {
  facts = over.facts ∙ of.facts;
  conflicts = over_exact kb g p of over;
  better = λ i j. ((λ b. absurd (h i j b)), (λ w. absurd (w.ranked refl)));
}

module _ (kb : Knowledge) (mode : Repairs) (p : Priority) (of : IsPriorityOf kb mode p) where
  own : (i : ℕ) → Contains p.own i ↔ ((i < length kb.facts) × IsSelfInconsistent kb i)
  own i = of.conflicts.owns_exact i

  conflict : (i j : ℕ) → Conflict p i j ↔ meaning.Conflict kb i j
  conflict i j = couples_exact kb p.own p.couples of.conflicts i j

  -- the second of two facts in conflict is a fact of the table
  within : (i j : ℕ) → meaning.Conflict kb i j → j < length kb.facts
  within i j w = Conflict-within kb j i (extension.Conflict-sym kb i j w)

  free : (S : ℕ → Type 0) → IsFree p S ↔ AreConsistent kb S
  free S = (to, λ c. from ((consistent_by_lists kb p.own p.couples of.conflicts S).0 c))
    where
      to : IsFree p S → AreConsistent kb S
      to h = (consistent_by_lists kb p.own p.couples of.conflicts S).1 (
        All-of (λ i. ¬ S i) p.own (λ i m s. h.own i s m),
        All-of (λ c. ¬ (S c.0 × S c.1)) p.couples (λ c m s. h.pairs c.0 c.1 s.0 s.1 (inl m)),
      )

      from : All (λ i. ¬ S i) p.own × All (λ c. ¬ (S c.0 × S c.1)) p.couples → IsFree p S
      from (none, apart) = record {
        own = λ i s m. All-contains (λ i. ¬ S i) p.own i none m s;
        pairs = λ i j s t c. elim c [
          | inl m ↦ All-contains (λ c. ¬ (S c.0 × S c.1)) p.couples (i, j) apart m (s, t)
          | inr m ↦ All-contains (λ c. ¬ (S c.0 × S c.1)) p.couples (j, i) apart m (t, s)
        ];
      }

  -- a fact that isn't self-inconsistent is consistent alone
  alone : (i : ℕ) → i < length kb.facts → ¬ Contains p.own i → AreConsistent kb (Only i)
  alone i l n = Consistent-stable kb.axioms (facts_in kb (Only i)) (λ s. n ((own i).1 (l, s)))

  chosen_is_local : (R : ℕ → Bool) → IsChosen p R ↔ repairs.IsLocallyOptimal kb (repairs.IsBetter kb mode) R
  chosen_is_local R = (to, from)
    where
      to : IsChosen p R → repairs.IsLocallyOptimal kb (repairs.IsBetter kb mode) R
      to h = record {
        consistent = (free (In R)).0 h.free;
        outside = λ i l f c.
            let b = h.outside i (subst (λ n. i < n) (sym of.facts) l) f (λ m. ((own i).0 m).1 c) in
            let w = (conflict i b.0).0 b.2 in
            (b.0, within i b.0 w, b.1, w, λ better. b.3 ((of.better i b.0).1 better));
      }

      from : repairs.IsLocallyOptimal kb (repairs.IsBetter kb mode) R → IsChosen p R
      from h = record {
        free = (free (In R)).1 h.consistent;
        outside = λ i l f n.
            let inside : i < length kb.facts = subst (λ n. i < n) of.facts l in
            let w = h.outside i inside f (alone i inside n) in
            (w.0, w.2, (conflict i w.0).1 w.3, λ better. w.4 ((of.better i w.0).0 better));
      }

  core : (kept dropped : List ℕ) → IsCore p (Contains kept) (Contains dropped)
      ↔ (All (λ j. j < p.facts) dropped × cores.IsCore kb mode (has kept) (has dropped))
  core kept dropped = (to, from)
    where
      known : IsCore p (Contains kept) (Contains dropped) → (j : ℕ) → Contains dropped j → j < length kb.facts
      known h j m = elim (h.blocked j m) [ inl o ↦ ((own j).0 o).0 | inr b ↦ Conflict-within kb j b.0 ((conflict j b.0).0 b.2) ]

      blocked : IsCore p (Contains kept) (Contains dropped) → (j : ℕ) → Contains p.own j ⊎ IsBlocked p (Contains kept) j
          → IsSelfInconsistent kb j ⊎ ((i : ℕ) × (i < length kb.facts) × (has kept i ≡ true) × meaning.Conflict kb j i × ¬ repairs.IsBetter kb mode j i)
      blocked h j (inl o) = inl ((own j).0 o).1
      blocked h j (inr b) = let w = (conflict j b.0).0 b.2 in inr (b.0, within j b.0 w, has_true kept b.0 b.1, w, λ better. b.3 ((of.better j b.0).1 better))

      to : IsCore p (Contains kept) (Contains dropped) → All (λ j. j < p.facts) dropped × cores.IsCore kb mode (has kept) (has dropped)
      to h = (
        All-of (λ j. j < p.facts) dropped (λ j m. subst (λ n. j < n) (sym of.facts) (known h j m)),
        record {
          consistent = (free (In (has kept))).0 (record {
            own = λ i t. h.free.own i (has_there kept i t);
            pairs =
                λ i j t u. h.free.pairs i j (has_there kept i t) (has_there kept j u);
          });
          drops = λ i j il jl t w. has_true dropped j (h.drops i j (has_there kept i t) ((conflict i j).1 w));
          blocked = λ j jl t. blocked h j (h.blocked j (has_there dropped j t));
        },
      )

      from : All (λ j. j < p.facts) dropped × cores.IsCore kb mode (has kept) (has dropped) → IsCore p (Contains kept) (Contains dropped)
      from (inside, h) = record {
        free = let f = (free (In (has kept))).1 h.consistent in record {
          own = λ i m. f.own i (has_true kept i m);
          pairs =
              λ i j m k. f.pairs i j (has_true kept i m) (has_true kept j k);
        };
        drops = λ i j m w. let c = (conflict i j).0 w in has_there dropped j (h.drops i j (Conflict-within kb i j c) (within i j c) (has_true kept i m) c);
        blocked = λ j m.
            let l : j < length kb.facts = subst (λ n. j < n) of.facts (All-contains (λ j. j < p.facts) dropped j inside m) in
            elim (h.blocked j l (has_true dropped j m)) [
              | inl s ↦ inl ((own j).1 (l, s))
              | inr w ↦ inr (w.0, has_there kept w.0 w.2, (conflict j w.0).1 w.3, λ better. w.4 ((of.better j w.0).0 better))
            ];
      }

  -- where a chosen repair is told by its local form
  pub means_the_input : ((R : ℕ → Bool) → repairs.IsChosen kb mode R ↔ repairs.IsLocallyOptimal kb (repairs.IsBetter kb mode) R) → MeansTheInput kb mode p
  means_the_input local = record {
    own = own;
    conflict = conflict;
    free = λ S. free (In S);
    free_list = λ list. free (Contains list);
    chosen = λ R. ((λ h. (local R).1 ((chosen_is_local R).0 h)), (λ h. (chosen_is_local R).1 ((local R).0 h)));
    core = core;
    acyclic = acyclic_exact kb mode (IsBetter p) of.better;
  }

  rivals : (kept : List ℕ) (j : ℕ) → ConflictsWith p kept j ↔ ((i : ℕ) × Contains kept i × meaning.Conflict kb i j)
  rivals kept j = ((λ w. (w.0, w.1, (conflict w.0 j).0 w.2)), (λ w. (w.0, w.1, (conflict w.0 j).1 w.2)))

  -- a core over the knowledge base that drops just what conflicts with the kept facts is one over the priority
  as_direct : (kept dropped : List ℕ) → AreRivals kb kept dropped → cores.IsCore kb mode (has kept) (has dropped)
      → IsCore p (Contains kept) (ConflictsWith p kept)
  as_direct kept dropped h c =
      let inside : All (λ j. j < p.facts) dropped = All-of (λ j. j < p.facts) dropped
      (λ j m. let w = (h j).0 m in subst (λ n. j < n) (sym of.facts) (within w.0 j w.2)) in
      let d = (core kept dropped).1 (inside, c) in
      record { free = d.free; drops = λ i j m w. (i, m, w); blocked = λ j w. d.blocked j ((h j).1 ((rivals kept j).0 w)) }

  pub direct_tells : (kept : List ℕ) → DirectTells kb mode p kept
  direct_tells kept = record {
    found = λ dropped d. ((λ j. ((λ m. (rivals kept j).0 ((d.exact j).0 m)), (λ w. (d.exact j).1 ((rivals kept j).1 w)))), ((core kept dropped).0 d.core).1);
    none = λ n dropped h c. n (as_direct kept dropped h c);
  }
