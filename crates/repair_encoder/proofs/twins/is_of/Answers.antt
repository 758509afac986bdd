use Rattle.std.proofs.Common.{inl, inr}
use Rattle.repair_encoder.proofs.twins.is_of.Goals as goal

pub returns : goal.returns
returns c = record {
  exact = (
    (λ t. inr (c.has_sorted.ensures.exact.0 t)),
    elim [ inl e ↦ absurd (c.if-number-given.false e) | inr m ↦ c.has_sorted.ensures.exact.1 m ],
  );
}
