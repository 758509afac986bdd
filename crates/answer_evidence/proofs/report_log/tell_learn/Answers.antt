use Rattle.std.proofs.Common.{ℕ, List, ◌<◌, ◌^◌, All, subst, inr, ◌∙◌}
use Rattle.answer_evidence.proofs.LoggingLemmas.{torn_of_failed}
use Rattle.answer_evidence.proofs.report_log.tell_learn.Goals as goal

pub line-requires-clause-form : goal.line-requires-clause-form
line-requires-clause-form g c = record {
  number_fits = c.ranges.number.fits;
  clause_fits = subst (λ (xs : List ℕ). All (λ n. n < 2 ^ 32) xs) c.as_slice.ensures.lent c.fit.ensures;
}

pub returns-in-Err-Failed-clause-tears : goal.returns-in-Err-Failed-clause-tears
returns-in-Err-Failed-clause-tears g c =
    inr (
      record { number = c.args.number; clause = c.args.clause },
      c.in-Err-Failed.ensures.torn ∙ torn_of_failed c.in-Err-Failed.field-0 _ c.in-Err-Failed.field-0-is,
    )
