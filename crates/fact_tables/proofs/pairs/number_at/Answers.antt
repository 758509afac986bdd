use Rattle.std.proofs.Common.{◌∙◌, ap}
use Rattle.std.specs.Prelude.{option_and_then}
use Rattle.fact_tables.specs.Numbers.{capped, number_in}
use Rattle.fact_tables.proofs.FieldLemmas.{some_field}
use Rattle.fact_tables.proofs.PairLemmas.{none_said}
use Rattle.fact_tables.proofs.pairs.number_at.Goals as goal

pub returns-in_err-get-clause-none : goal.returns-in_err-get-clause-none
returns-in_err-get-clause-none c = rw c.from_residual.ensures (λ all. some_field _ _ c.requires.within c.in_err-get.ensures.value)

pub returns-clause-none : goal.returns-clause-none
returns-clause-none c = none_said _ c.args.place _ c.requires.within
    (c.number_in.ensures.exact ∙ ap (λ o. capped (option_and_then number_in o)) c.in_ok-get.ensures.value)
