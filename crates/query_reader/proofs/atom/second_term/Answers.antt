-- A fault in the second term, or behind it.
use Rattle.std.proofs.Common.{refl, sym, ◌∙◌}
use Rattle.query_reader.specs.declared.place.Place.TheVariants as at
use Rattle.query_reader.specs.Grammar.{term_token}
use Rattle.query_reader.specs.Parts.{term_view}
use Rattle.query_reader.specs.Tokens.{comma}
use Rattle.query_reader.proofs.FaultLemmas.{passed, fault_here, fault_later, comma_stands, second_may}
use Rattle.query_reader.proofs.atom.second_term.Goals as goal

pub returns-in_err-second-clause-fault : goal.returns-in_err-second-clause-fault
returns-in_err-second-clause-fault c =
    let mark = comma_stands _ _ (sym c.after_gap-next.ensures.exact ∙ c.in-Some-mark_at.ensures.found) in
    passed _ c.from_residual.result _ c.from_residual.ensures.1
    (fault_later at.BehindFirst comma _ _ _ refl mark (fault_here at.SecondTerm _ _ c.in_err-second.ensures.fault))

pub returns-in_err-after-clause-fault : goal.returns-in_err-after-clause-fault
returns-in_err-after-clause-fault c =
    let mark = comma_stands _ _ (sym c.after_gap-next.ensures.exact ∙ c.in-Some-mark_at.ensures.found) in
    let second = term_token (term_view c.in_ok-second.second) in
    passed _ c.from_residual-in_err-after.result _ c.from_residual-in_err-after.ensures.1
    (fault_later at.BehindFirst comma _ _ _ refl mark (fault_later at.SecondTerm second _ _ _ (second_may _) c.in_ok-second.ensures.found
    (fault_here at.Closing _ _ c.in_err-after.ensures.fault)))
