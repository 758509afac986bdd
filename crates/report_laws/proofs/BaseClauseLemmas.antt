-- Each base clause is true of every chosen repair.
use Rattle.std.proofs.Common.{◌≡◌, ℕ, ◌<◌, ◌↔◌, length, Bool, sym, subst, ◌∙◌}
use Rattle.cq_terms.specs.declared.facts.Repairs.{Repairs}
use Rattle.cq_terms.specs.Knowledge.{Knowledge}
use Rattle.cq_meaning.specs.Conflicts.{In}
use Rattle.cq_meaning.specs.Repairs as repairs
use Rattle.cq_meaning.specs.Repairs.{IsLocallyOptimal}
use Rattle.cq_meaning.proofs.ByLists.{Conflict-within}
use Rattle.cq_meaning.proofs.Extension.{AreConsistent-within, Conflict-sym}
use Rattle.cq_meaning.proofs.Decided.{conflicts_told}
use Rattle.cq_meaning.proofs.Chosen.{chosen_is_local, chosen_from_local}
use Rattle.clause_meaning.specs.Assignments.{SatisfiesAll}
use Rattle.priority_graph.specs.Priority.{Priority}
use Rattle.priority_graph.specs.Inputs.{IsPriorityOf, MeansTheInput}
use Rattle.priority_graph.proofs.InputLemmas.{means_the_input}
use Rattle.repair_clauses.proofs.LawLemmas.{IsOfTable, satisfied_by_chosen}
use Rattle.report_rules.specs.Clauses.{IsBaseClause}

-- a chosen repair is told by its local form
pub is_local : (kb : Knowledge) (mode : Repairs) (R : ℕ → Bool) → repairs.IsChosen kb mode R ↔ IsLocallyOptimal kb (repairs.IsBetter kb mode) R
is_local kb mode R = let t = conflicts_told kb in chosen_is_local kb mode t.0 t.1 t.2 R

-- what is said over a priority of the input is said over the input
pub means : (kb : Knowledge) (mode : Repairs) (p : Priority) → IsPriorityOf kb mode p → MeansTheInput kb mode p
means kb mode p of = means_the_input kb mode p of (is_local kb mode)

-- a priority of the input speaks of its facts alone
pub input_of_table : (kb : Knowledge) (mode : Repairs) (p : Priority) → IsPriorityOf kb mode p → IsOfTable p
input_of_table kb mode p of = record {
  own = λ i o. known i ((of.conflicts.owns_exact i).0 o).0;
  conflict = λ i j c. known j (Conflict-within kb j i (Conflict-sym kb i j (((means kb mode p of).conflict i j).0 c)));
}
  where
    known : (i : ℕ) → i < length kb.facts → i < p.facts
    known i l = subst (λ n. i < n) (sym of.facts) l

agree_local : (kb : Knowledge) (mode : Repairs) (R v : ℕ → Bool) → ((i : ℕ) → i < length kb.facts → v i ≡ R i)
    → IsLocallyOptimal kb (repairs.IsBetter kb mode) R → IsLocallyOptimal kb (repairs.IsBetter kb mode) v
agree_local kb mode R v a h = record {
  consistent = AreConsistent-within kb (In v) (In R) (λ i l t. sym (a i l) ∙ t) h.consistent;
  outside = λ i l f alone. let w = h.outside i l (sym (a i l) ∙ f) alone in (w.0, w.1, a w.0 w.1 ∙ w.2, w.3, w.4);
}

-- what agrees with a chosen repair on the facts is one
pub agree_chosen : (kb : Knowledge) (mode : Repairs) (R v : ℕ → Bool) → ((i : ℕ) → i < length kb.facts → v i ≡ R i) → repairs.IsChosen kb mode R
    → repairs.IsChosen kb mode v
agree_chosen kb mode R v a c = chosen_from_local kb mode v (agree_local kb mode R v a ((is_local kb mode R).0 c))

-- the base clauses of an input are true of each chosen repair
pub base_true : (kb : Knowledge) (mode : Repairs) (v : ℕ → Bool) → repairs.IsChosen kb mode v → SatisfiesAll v (IsBaseClause kb mode)
base_true kb mode v c clause (p, of, base) = (satisfied_by_chosen p (input_of_table kb mode p of) v).1 (((means kb mode p of).chosen v).1 c) clause base
