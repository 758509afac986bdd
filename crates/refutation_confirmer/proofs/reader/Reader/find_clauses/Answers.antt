use Rattle.std.proofs.Common.{refl, sym, ◌∙◌}
use Rattle.refutation_confirmer.proofs.FindingLemmas.{fits_clauses, count_at}
use Rattle.refutation_confirmer.proofs.FittingLemmas.{none_so}
use Rattle.refutation_confirmer.proofs.reader.Reader.find_clauses.Goals as goal

pub returns-clause-fits : goal.returns-clause-fits
returns-clause-fits c =
    let size = c.in-Some-variables.ensures.exact in
    rw (← c.self.view_is)
    (λ kb h. fits_clauses kb _ c.in-Some.conflicts c.in-Some-better.better c.in-Some-candidates.candidates.items c.in_ok-clauses.clauses
    c.in-Some-variables.variables h.blocks (none_so c.self.inside.clauses (sym c.is_some.ensures ∙ c.if-is_some.false)) c.in-Some.is c.in-Some-better.is
    (rw c.in-Some-candidates.is refl) (
      count_at c.in-Some-variables.variables c.facts.result _ c.in-Some.conflicts.facts c.as_slice.result.now c.in-Some-candidates.candidates.items size.0
          c.facts.ensures.exact refl c.as_slice.ensures.value,
      size.1,
    )
    c.in_ok-clauses.ensures.variables c.in_ok-clauses.ensures.exact)
