use Rattle.std.proofs.Common.{◌<◌, ℕ, List, [], ◌∷◌, Option, Some, None, refl, sym, subst, Contains, All, arith}
use Rattle.std.specs.Prelude.{Result, Ok, Err, IfOk, IfSome}
use Rattle.std.proofs.lemmas.List.Elements.{All-cons, All-nil}
use Rattle.cq_meaning.proofs.Members.{Contains-one}
use Rattle.cq_terms.specs.Conflicts.{ConflictGraph}
use Rattle.cq_terms.specs.Lists.{IsAscending}
use Rattle.explainer.specs.declared.cores.Core.{Core}
use Rattle.priority_graph.specs.Priority.{Priority, IsPriority, IsOver}
use Rattle.priority_graph.proofs.DirectLemmas.{Conflict-sym, conflict_of, conflict_below}
use Rattle.answer_evidence.specs.Aims.{IsCoreOver, Shows}
use Rattle.answer_evidence.specs.declared.aim.Aim.{Aim}
use Rattle.answer_desk.specs.Openings.{DropsDirectly}
use Rattle.answer_desk.proofs.work.Work.direct_core.Goals as goal

one_ascends : (j : ℕ) → IsAscending (j ∷ [])
one_ascends j i k d l m = absurd (omega arith)

dropped_by : (p : Priority) (g : ConflictGraph) (fact : ℕ) (core : Core) → IsPriority p → IsOver p g → DropsDirectly p g fact core
    → IsCoreOver p core.kept core.dropped × Contains core.dropped fact
dropped_by p g fact core order over d =
    let j = d.rival.0 in
    let c = conflict_of p g fact j over d.rival.1 in (
      record {
        kept_ascending = subst IsAscending (sym d.rival.2) (one_ascends j);
        kept_known = subst (λ (xs : List ℕ). All (λ i. i < p.facts) xs) (sym d.rival.2) (All-cons (λ i. i < p.facts) j []
            (conflict_below p order fact j c) (All-nil (λ i. i < p.facts)));
        dropped_ascending = d.direct.ascending;
        core = d.direct.core;
      },
      (d.direct.exact fact).1 (j, subst (λ (xs : List ℕ). Contains xs j) (sym d.rival.2) (Contains-one j j refl), Conflict-sym p fact j c),
    )

each : {E : Type 0} (p : Priority) (g : ConflictGraph) (fact : ℕ) → IsPriority p → IsOver p g → (r : Result (Option Core) E)
    → IfOk r (λ answer. IfSome answer (DropsDirectly p g fact))
    → IfOk r (λ answer. IfSome answer (λ core. IsCoreOver p core.kept core.dropped × Contains core.dropped fact))
each p g fact order over (Ok (Some core)) d = dropped_by p g fact core order over d
each p g fact order over (Ok None) d = tt
each p g fact order over (Err e) d = tt

pub returns-in-WithoutFact-clause-found : goal.returns-in-WithoutFact-clause-found
returns-in-WithoutFact-clause-found c =
    subst (λ (a : Aim). IfOk c.direct_against.result (λ answer. IfSome answer (λ core. IsCoreOver c.args.self.now.better.now core.kept
    core.dropped × Shows a core.kept core.dropped)))
    (sym c.in-WithoutFact.is)
    (each c.args.self.now.better.now c.args.self.now.conflicts.now _ c.linear-order.ensures.kept c.requires.over c.direct_against.result
    c.direct_against.ensures.found)
