use Rattle.std.proofs.Common.{[], ◌∷◌, refl, sym, subst, ◌∙◌}
use Rattle.report_rules.specs.Inputs.{query_at}
use Rattle.refutation_confirmer.specs.State.{State}
use Rattle.refutation_confirmer.specs.Steps.{HasConflicts}
use Rattle.refutation_confirmer.proofs.FindingLemmas.{fits_candidates}
use Rattle.refutation_confirmer.proofs.FittingLemmas.{none_so, some_not_none, graph_at, closure_stands, not_begun_if}
use Rattle.refutation_confirmer.proofs.reader.Reader.find_candidates.Goals as goal

pub returns-clause-fits : goal.returns-clause-fits
returns-clause-fits c =
    let told = subst (λ (s : State). HasConflicts c.args.kb.now s) (sym c.self.view_is) c.requires.told in
    let none = none_so c.self.inside.candidates (sym c.is_some.ensures ∙ c.if-is_some.false) in
    rw (← c.self.view_is)
    (fits_candidates c.args.kb.now _ c.in_ok-candidates.candidates.items (rw none refl)
    (λ names q before f. c.in_ok-candidates.ensures.exact c.args.kb.now (query_at (q ∷ []) c.self.inside.standing.ends) (sym f.found.plain)
    c.facts-facts.ensures.distinct (graph_at c.args.kb.now names q before _ f c.in-Some.conflicts c.in-Some.is)
    (rw c.query_members-members.ensures.lent (closure_stands c.args.kb.now names q before _ f told.blocks
    (not_begun_if c.args.kb.now (q ∷ []) _ f.found (λ k. some_not_none _ k.candidates (rw none refl)))))))
