use Rattle.std.proofs.Common.{refl}
use Rattle.refutation_confirmer.proofs.order.is_next_block.Goals as goal

pub returns : goal.returns
returns c =
    let none = rw c.least_next-from.ensures.exact at c.has_no_negative.ensures.exact in
    let bound = rw c.least_next-from.ensures.exact at c.if-to-from.false in
    record {
      exact = rw c.in-Negative.is (
        (λ t. (bound, c.if-not-is_negative_at.ensures.exact.0 refl, none.0 t)),
        (λ w. none.1 w.2),
      );
    }
