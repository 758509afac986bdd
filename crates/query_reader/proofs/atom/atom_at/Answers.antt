-- A fault behind the name, in the first term, or behind it.
use Rattle.std.proofs.Common.{refl}
use Rattle.query_reader.specs.declared.place.Place.TheVariants as at
use Rattle.query_reader.specs.Grammar.{term_token}
use Rattle.query_reader.specs.Parts.{term_view}
use Rattle.query_reader.specs.Tokens.{name, opening}
use Rattle.query_reader.proofs.FaultLemmas.{passed, fault_here, fault_later, first_may}
use Rattle.query_reader.proofs.atom.atom_at.Goals as goal

pub returns-in_err-after-clause-fault : goal.returns-in_err-after-clause-fault
returns-in_err-after-clause-fault c =
    passed _ c.from_residual-in_err-after.result _ c.from_residual-in_err-after.ensures.1
    (fault_later at.AtomName (name c.in_ok-name.name.now) _ _ _ refl c.in_ok-name.ensures.found (fault_here at.Opening _ _ c.in_err-after.ensures.fault))

pub returns-in_err-first-clause-fault : goal.returns-in_err-first-clause-fault
returns-in_err-first-clause-fault c =
    passed _ c.from_residual-in_err-first.result _ c.from_residual-in_err-first.ensures.1
    (fault_later at.AtomName (name c.in_ok-name.name.now) _ _ _ refl c.in_ok-name.ensures.found
    (fault_later at.Opening opening _ _ _ refl c.in_ok-after.ensures.found (fault_here at.FirstTerm _ _ c.in_err-first.ensures.fault)))

pub returns-in_err-second-clause-fault : goal.returns-in_err-second-clause-fault
returns-in_err-second-clause-fault c =
    let first = term_token (term_view c.in_ok-first.first) in
    passed _ c.from_residual-in_err-second.result _ c.from_residual-in_err-second.ensures.1
    (fault_later at.AtomName (name c.in_ok-name.name.now) _ _ _ refl c.in_ok-name.ensures.found
    (fault_later at.Opening opening _ _ _ refl c.in_ok-after.ensures.found
    (fault_later at.FirstTerm first _ _ _ (first_may _) c.in_ok-first.ensures.found c.in_err-second.ensures.fault)))
