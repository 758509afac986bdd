use Rattle.std.proofs.Common.{refl, sym, ◌∙◌}
use Rattle.std.proofs.lemmas.Bool.{false≢true}
use Rattle.repair_encoder.proofs.twins.are_twins.Goals as goal

pub returns-then-speaks_of_all : goal.returns-then-speaks_of_all
returns-then-speaks_of_all c = record {
  exact = (
    (λ t f. (c.if-speaks_of_all.ensures.exact.0 refl f, c.speaks_of_all-then-speaks_of_all.ensures.exact.0 t f)),
    (λ twins. c.speaks_of_all-then-speaks_of_all.ensures.exact.1 (λ f. (twins f).1)),
  );
}

pub returns-else-speaks_of_all : goal.returns-else-speaks_of_all
returns-else-speaks_of_all c = record {
  exact = (
    (λ t. absurd (false≢true (sym c.if-speaks_of_all.false ∙ t))),
    (λ twins. c.speaks_of_all.ensures.exact.1 (λ f. (twins f).0)),
  );
}
