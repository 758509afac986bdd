-- A quote is written twice, and any other byte once.
use Rattle.std.proofs.Common.{◌∷◌, ap, ◌∙◌}
use Rattle.query_reader.proofs.InsideLemmas.{if_some, byte_inside-other}
use Rattle.query_reader.proofs.constant.behind_byte.Goals as goal

pub returns-then-first-eq39-clause-found : goal.returns-then-first-eq39-clause-found
returns-then-first-eq39-clause-found c =
    if_some c.mark_at.result _ _ (λ after e. (39, c.in_ok-first.ensures.cases.0 ∙ rw c.if-first-eq39.true (ap (λ bytes. 39 ∷ bytes) e))) c.mark_at.ensures.found

pub returns-else-first-eq39-clause-found : goal.returns-else-first-eq39-clause-found
returns-else-first-eq39-clause-found c =
    (c.in_ok-first.first.now, rw (byte_inside-other _ c.if-first-eq39.false) c.in_ok-first.ensures.cases.0)
