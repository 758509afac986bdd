use Rattle.cause_finder.proofs.PartLemmas.{not_so}
use Rattle.cause_finder.proofs.parts.is_free_among.Goals as goal

pub returns : goal.returns
returns c = record {
  exact = (
    (λ yes. (not_so _ _ c.is_own.ensures.exact c.if-is_own.false, c.conflicts_with_none.ensures.exact.0 yes)),
    (λ h. c.conflicts_with_none.ensures.exact.1 h.1),
  );
}
