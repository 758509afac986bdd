-- The base clauses of an input are those of each priority that is the input's, and say which repairs are chosen.
use Rattle.std.proofs.Common.{◌≡◌, ℕ, ◌<◌, ◌⊎◌, ◌↔◌, inl, inr, List, Bool, sym, subst, ◌∙◌}
use Rattle.cq_terms.specs.declared.facts.Repairs.{Repairs}
use Rattle.cq_terms.specs.Knowledge.{Knowledge}
use Rattle.cq_meaning.specs.Repairs.{IsChosen}
use Rattle.clause_meaning.specs.Assignments.{SatisfiesAll}
use Rattle.priority_graph.specs.Priority.{Priority}
use Rattle.priority_graph.specs.Inputs.{IsPriorityOf}
use Rattle.repair_clauses.specs.BaseClauses as over_priority
use Rattle.repair_clauses.specs.BaseClauses.{AllFacts, Blocks}
use Rattle.repair_clauses.proofs.LawLemmas.{satisfied_by_chosen}
use Rattle.report_rules.specs.Clauses.{IsBaseClause}
use Rattle.report_laws.proofs.BaseClauseLemmas.{means, input_of_table, base_true}
use Rattle.report_laws.proofs.ConflictsExist.{priority_exists}

-- two priorities of one input have the same blockers
same_blocks : (kb : Knowledge) (mode : Repairs) (p p' : Priority) → IsPriorityOf kb mode p → IsPriorityOf kb mode p' → (f g : ℕ) → (g ≡ f) ⊎ Blocks p f g
    → (g ≡ f) ⊎ Blocks p' f g
same_blocks kb mode p p' of of' f g (inl e) = inl e
same_blocks kb mode p p' of of' f g (inr (c, n)) =
    inr (((means kb mode p' of').conflict f g).1 (((means kb mode p of).conflict f g).0 c), λ b. n ((of.better f g).1 ((of'.better f g).0 b)))

-- and the same base clauses
same_base : (kb : Knowledge) (mode : Repairs) (p p' : Priority) → IsPriorityOf kb mode p → IsPriorityOf kb mode p' → (c : List ℕ)
    → over_priority.IsBaseClause p (AllFacts p) c → over_priority.IsBaseClause p' (AllFacts p') c
same_base kb mode p p' of of' c base = go base
  where
    fact : (i : ℕ) → i < p.facts → i < p'.facts
    fact i l = subst (λ n. i < n) (of.facts ∙ sym of'.facts) l

    go : over_priority.IsBaseClause p (AllFacts p) c → over_priority.IsBaseClause p' (AllFacts p') c
    go (inl (a, s, (b, r, m, e))) = inl (a, fact a s, (b, fact b r, (of'.conflicts.pairs_exact a b).1 ((of.conflicts.pairs_exact a b).0 m), e))
    go (inr (f, s, inl (o, e))) = inr (f, fact f s, inl ((of'.conflicts.owns_exact f).1 ((of.conflicts.owns_exact f).0 o), e))
    go (inr (f, s, inr (n, b))) = inr (
      f,
      fact f s,
      inr (
        (λ o. n ((of.conflicts.owns_exact f).1 ((of'.conflicts.owns_exact f).0 o))),
        record {
          ascending = b.ascending;
          exact = λ l. (
            (λ m. let w = (b.exact l).0 m in (w.0, same_blocks kb mode p p' of of' f w.0 w.1, w.2)),
            (λ (g, x, e). (b.exact l).1 (g, same_blocks kb mode p' p of' of f g x, e)),
          );
        },
      ),
    )

-- the base clauses of the input are those of its priority
pub base_of_priority : (kb : Knowledge) (mode : Repairs) (p : Priority) → IsPriorityOf kb mode p → (c : List ℕ) → IsBaseClause kb mode c
    ↔ over_priority.IsBaseClause p (AllFacts p) c
base_of_priority kb mode p of c = ((λ (p', of', base). same_base kb mode p' p of' of c base), (λ base. (p, of, base)))

-- an assignment satisfies the base clauses exactly where its present facts are a chosen repair
pub base_says_chosen : (kb : Knowledge) (mode : Repairs) (v : ℕ → Bool) → SatisfiesAll v (IsBaseClause kb mode) ↔ IsChosen kb mode v
base_says_chosen kb mode v =
    let (p, of) = priority_exists kb mode in (
      (λ s. ((means kb mode p of).chosen v).0 ((satisfied_by_chosen p (input_of_table kb mode p of) v).0 (λ c base. s c (p, of, base)))),
      (λ c. base_true kb mode v c),
    )
