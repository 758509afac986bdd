use Rattle.cause_finder.proofs.groups.is_cause.Goals as goal

pub returns : goal.returns
returns c = record {
  exact = (
    (λ yes. (c.is_free.ensures.exact.0 c.if-not-is_free.false, c.has_no_part.ensures.exact.0 yes)),
    (λ h. c.has_no_part.ensures.exact.1 h.1),
  );
}
