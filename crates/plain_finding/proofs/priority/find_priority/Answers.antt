use Rattle.std.proofs.Common.{◌≡◌, refl, inl, inr, subst, sym}
use Rattle.cq_terms.specs.declared.facts.Repairs.{Repairs}
use Rattle.cq_terms.specs.declared.facts.Repairs.TheVariants as mode
use Rattle.priority_graph.specs.Inputs.{IsPriorityOf}
use Rattle.plain_finding.proofs.ResultFacts.{if_ok_two}
use Rattle.plain_finding.proofs.priority.find_priority.Goals as goal

pub returns-in-All-clause-exact : goal.returns-in-All-clause-exact
returns-in-All-clause-exact c =
    if_ok_two _ _ _ c.none.result
    (λ b over none. subst (λ (m : Repairs). IsPriorityOf c.args.kb.now m b) (sym c.in-All.is)
    (c.empty_is_all.ensures.all c.args.kb.now c.args.conflicts.now b c.requires.of over none))
    c.none.ensures.over c.none.ensures.exact

pub unreachable-requires : goal.unreachable-requires
unreachable-requires c =
    let w = rw c.in-Err-Cycle.field-0-is at c.in-Err-Cycle.ensures.cycle in
    elim c.requires.acyclic [
      | inl e ↦ let two : mode.All ≡ mode.Pareto = cc (e, c.in-Pareto.is) in cc two
      | inr a ↦ (w c.in-Err-Cycle.field-0-0 refl).1 a
    ]
