use Rattle.std.proofs.Common.{◌≡◌, ◌⊎◌, sym, subst}
use Rattle.report_rules.specs.declared.place.Place.TheVariants.{InTry, AfterCore}
use Rattle.refutation_confirmer.specs.State.{State}
use Rattle.refutation_confirmer.proofs.ObeyingLemmas.{tells_done}
use Rattle.refutation_confirmer.proofs.reader.Reader.obeys_done.Goals as goal

pub returns-clause-exact : goal.returns-clause-exact
returns-clause-exact c = λ kb names q. rw (← c.self.view_is)
    (tells_done kb names q _ c.is_right_done.result c.in-Some.conflicts c.in-Some-better.better c.in-Some-clauses.clauses c.args.how c.args.core c.in-Some.is
    c.in-Some-better.is c.in-Some-clauses.is
    (subst (λ (s : State). (s.standing.place ≡ InTry) ⊎ (s.standing.place ≡ AfterCore)) (sym c.self.view_is) c.requires.comes.1.order)
    c.is_right_done.ensures.exact)
