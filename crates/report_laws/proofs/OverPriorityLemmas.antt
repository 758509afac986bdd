-- An open answer over a priority: there is an input, so what is said of each is said of one.
use Rattle.std.proofs.Common.{◌≡◌, ℕ, ◌<◌, List, [], All, Contains, refl, sym, subst, ◌∙◌}
use Rattle.cq_terms.specs.declared.facts.Repairs.{Repairs}
use Rattle.cq_terms.specs.declared.facts.Repairs.TheVariants as mode
use Rattle.cq_terms.specs.Conflicts.{ConflictGraph, own_facts}
use Rattle.cq_terms.specs.Knowledge.{Knowledge}
use Rattle.cq_meaning.specs.Conflicts.{AreConflicts}
use Rattle.priority_graph.specs.Priority.{Priority, IsPriority, IsOver}
use Rattle.priority_graph.specs.Inputs.{IsPriorityOf}
use Rattle.cq_meaning.specs.ConflictGraphs.{AreConflictsOf}
use Rattle.report_text.specs.declared.line.Line.{Line}
use Rattle.report_text.specs.declared.line.Question.{Question}
use Rattle.report_text.specs.declared.line.Question.TheVariants as question
use Rattle.report_text.specs.declared.line.Verdict.{Verdict}
use Rattle.report_rules.specs.Inputs.{Input, OneQuery}
use Rattle.report_rules.specs.Told.{mode_of, budget_of}
use Rattle.report_rules.specs.Tries.{asked}
use Rattle.report_laws.specs.Readings.{IsDecided}
use Rattle.report_laws.specs.OpenAnswers.{AreConsistentLists}
use Rattle.report_laws.specs.Bounds.{IsAtLeastBound}
use Rattle.report_laws.specs.OverPriority.{IsRightOver, IsVerdictOver, FitsMode, AreFreeLists}
use Rattle.report_laws.proofs.BaseClauseLemmas.{means}
use Rattle.report_laws.proofs.BoundLemmas.{graph_tells}
use Rattle.report_laws.proofs.BudgetLemmas.{open_decided}
use Rattle.report_laws.proofs.EasyLemmas.{open_all_decides}
use Rattle.report_laws.proofs.InputExists.{has_input}

-- what a priority is over are the conflicts of the knowledge base whose priority it is
pub conflicts_of_priority : (kb : Knowledge) (repairs : Repairs) (p : Priority) (g : ConflictGraph) → IsPriorityOf kb repairs p → IsOver p g
    → AreConflictsOf kb g
conflicts_of_priority kb repairs p g of over = record {
  facts = sym over.facts ∙ of.facts;
  exact = subst (λ (pairs : List (ℕ × ℕ)). AreConflicts kb (own_facts g.clashes) pairs) over.couples
      (subst (λ (own : List ℕ). AreConflicts kb own p.couples) over.own of.conflicts);
}

-- some knowledge base has the priority in the mode
pub some_base : (p : Priority) → IsPriority p → (repairs : Repairs) → FitsMode p repairs → (kb : Knowledge) × IsPriorityOf kb repairs p
some_base p h mode.All fits = let w = has_input p h in (w.0, w.2 (fits refl))
some_base p h mode.Pareto fits = let w = has_input p h in (w.0, w.1)

-- an input of it
input_of : Knowledge → Input
input_of kb = record { kb = kb; names = []; form = OneQuery; queries = [] }

pub over_priority_decided : (p : Priority) (g : ConflictGraph) → IsPriority p → IsOver p g → (before : List Line) → FitsMode p (mode_of before)
    → IsRightOver p (mode_of before) before
    → IsAtLeastBound g (asked before).causes (budget_of before) → (cores : List ℕ) (q : Question) (said : Verdict)
    → IsVerdictOver p (mode_of before) before cores q said → IsDecided said
unfolding input_of
over_priority_decided p g h over before fits right (facts, bound, large) cores q said verdict =
    let (kb, of) = some_base p h (mode_of before) fits in
    open_decided (input_of kb) before (right (input_of kb) of) facts
    (((graph_tells kb g (conflicts_of_priority kb (mode_of before) p g of over)).bound (asked before).causes facts).0 bound) large cores q said
    (verdict kb of)

pub over_priority_all_decided : (p : Priority) → IsPriority p → (before : List Line) → mode_of before ≡ mode.All → FitsMode p mode.All
    → IsRightOver p mode.All before → AreFreeLists p (asked before).causes
    → (cores : List ℕ) (brave ar iar : Verdict) → IsVerdictOver p mode.All before cores question.Brave brave
    → IsVerdictOver p mode.All before cores question.Ar ar → IsVerdictOver p mode.All before cores question.Iar iar
    → IsDecided brave × IsDecided iar × (((c d : List ℕ) → Contains (asked before).causes c → Contains (asked before).causes d → c ≡ d) → IsDecided ar)
unfolding input_of
over_priority_all_decided p h before all fits right free cores brave ar iar bv av iv =
    let (kb, of) = some_base p h mode.All fits in
    let lists : AreConsistentLists kb (asked before).causes = (λ cause m. (
      subst (λ n. All (λ i. i < n) cause) of.facts (free cause m).0,
      ((means kb mode.All p of).free_list cause).0 (free cause m).1,
    )) in
    open_all_decides (input_of kb) before (right (input_of kb) of) all lists cores brave ar iar (bv kb of) (av kb of) (iv kb of)
