use Rattle.std.proofs.Common.{◌∙◌, sym}
use Rattle.fact_tables.proofs.PairLemmas.{both_numbers, not_named, pair_exact, pair_right, refused_as}
use Rattle.fact_tables.proofs.pairs.pair_of.Goals as goal

pub returns-in_err-ok_or-clause-refused : goal.returns-in_err-ok_or-clause-refused
returns-in_err-ok_or-clause-refused c =
    let numbers = both_numbers _ c.requires.few _ _ _ (sym c.len.ensures ∙ c.if-len-ne2.false) (sym c.in_ok-upper.ensures.ok_part ∙ c.number_at.ensures.exact)
    (sym c.in_ok-lower.ensures.ok_part ∙ c.number_at-2.ensures.exact) in
    refused_as _ _ _ _ _ c.from_residual-in_err-ok_or.ensures.1 (rw c.in_err-ok_or.ensures.ok_part at c.in_err-ok_or.ensures.value)
    (sym c.len.ensures ∙ c.if-len-ne2.false) numbers
    (not_named _ c.requires.few _ _ _ (sym c.in_ok-upper.ensures.ok_part ∙ c.number_at.ensures.exact)
    (sym c.in_err-ok_or.ensures.ok_part ∙ c.fact_number.ensures.exact))

pub returns-in_err-ok_or-2-clause-refused : goal.returns-in_err-ok_or-2-clause-refused
returns-in_err-ok_or-2-clause-refused c =
    let numbers = both_numbers _ c.requires.few _ _ _ (sym c.len.ensures ∙ c.if-len-ne2.false) (sym c.in_ok-upper.ensures.ok_part ∙ c.number_at.ensures.exact)
    (sym c.in_ok-lower.ensures.ok_part ∙ c.number_at-2.ensures.exact) in
    refused_as _ _ _ _ _ c.from_residual-in_err-ok_or-2.ensures.1 (rw c.in_err-ok_or-2.ensures.ok_part at c.in_err-ok_or-2.ensures.value)
    (sym c.len.ensures ∙ c.if-len-ne2.false) numbers
    (not_named _ c.requires.few _ _ _ (sym c.in_ok-lower.ensures.ok_part ∙ c.number_at-2.ensures.exact)
    (sym c.in_err-ok_or-2.ensures.ok_part ∙ c.fact_number-2.ensures.exact))

pub returns-clause-right : goal.returns-clause-right
returns-clause-right c = pair_right _ c.requires.few _ _ _ _ _ (sym c.len.ensures ∙ c.if-len-ne2.false)
    (sym c.in_ok-upper.ensures.ok_part ∙ c.number_at.ensures.exact) (sym c.in_ok-lower.ensures.ok_part ∙ c.number_at-2.ensures.exact)
    (sym c.in_ok-ok_or.ensures.ok_part ∙ c.fact_number.ensures.exact) (sym c.in_ok-ok_or-2.ensures.ok_part ∙ c.fact_number-2.ensures.exact)

pub returns-clause-exact : goal.returns-clause-exact
returns-clause-exact c = pair_exact _ c.requires.few _ _ _ _ _ (sym c.len.ensures ∙ c.if-len-ne2.false)
    (sym c.in_ok-upper.ensures.ok_part ∙ c.number_at.ensures.exact) (sym c.in_ok-lower.ensures.ok_part ∙ c.number_at-2.ensures.exact)
    (sym c.in_ok-ok_or.ensures.ok_part ∙ c.fact_number.ensures.exact) (sym c.in_ok-ok_or-2.ensures.ok_part ∙ c.fact_number-2.ensures.exact)
