use Rattle.std.proofs.Common.{sym}
use Rattle.fact_tables.proofs.FieldLemmas.{none_of_err, not_texts, some_field}
use Rattle.fact_tables.proofs.fact_record.text_at.Goals as goal

pub returns-in_err-get-clause-none : goal.returns-in_err-get-clause-none
returns-in_err-get-clause-none c = rw c.from_residual.ensures (λ all. some_field _ _ c.requires.within c.in_err-get.ensures.value)

pub returns-clause-none : goal.returns-clause-none
returns-clause-none c =
    rw c.ok.ensures.value (none_of_err c.from_utf8.result _ _ _ c.from_utf8.ensures.cases
    (λ e h. not_texts _ c.args.place c.in_ok-get.field-0.now (sym c.in_ok-get.ensures.value) h.0))
