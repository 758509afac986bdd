use Rattle.std.proofs.Common.{◌≡◌, ℕ, List, refl, subst}
use Rattle.cq_terms.specs.declared.facts.Repairs.TheVariants as mode
use Rattle.cq_meaning.specs.Repairs.{IsAcyclic, IsBetter}
use Rattle.priority_graph.specs.Relations.{IsCycle}
use Rattle.refutation_confirmer.proofs.reader.Reader.rank.Goals as goal

pub returns-in-Err-Cycle-clause-cycle : goal.returns-in-Err-Cycle-clause-cycle
returns-in-Err-Cycle-clause-cycle c = λ facts e.
    let w = rw c.in-Err-Cycle.field-0-is at c.in-Err-Cycle.ensures.cycle in
    let same : c.in-Err-Cycle.facts ≡ facts = cc e in
    subst (λ (fs : List ℕ). IsCycle (IsBetter c.args.kb.now mode.Pareto) fs × ¬ IsAcyclic c.args.kb.now mode.Pareto) same
    (w c.in-Err-Cycle.facts refl)
