use Rattle.std.proofs.Common.{sym, subst, ◌∙◌}
use Rattle.refutation_confirmer.specs.State.{State}
use Rattle.refutation_confirmer.specs.Steps.{HasBlocks}
use Rattle.refutation_confirmer.proofs.FindingLemmas.{fits_conflicts}
use Rattle.refutation_confirmer.proofs.FittingLemmas.{none_so, tell_conflicts}
use Rattle.refutation_confirmer.proofs.reader.Reader.find_conflicts.Goals as goal

pub find_conflicts-requires-clause-ready : goal.find_conflicts-requires-clause-ready
find_conflicts-requires-clause-ready c =
    tell_conflicts c.args.kb.now _ _ (subst (λ (s : State). HasBlocks c.args.kb.now s) (sym c.self.view_is) c.requires.blocks)
    (none_so c.self.inside.conflicts (sym c.is_some.ensures ∙ c.if-is_some.false)) (c.deref.ensures.value ∙ c.in_ok-queries.ensures.exact)

pub returns-clause-fits : goal.returns-clause-fits
returns-clause-fits c =
    rw (← c.self.view_is)
    (fits_conflicts c.args.kb.now _ c.in_ok-conflicts.conflicts c.in_ok-conflicts.ensures.exact c.facts-facts.ensures.kept)
