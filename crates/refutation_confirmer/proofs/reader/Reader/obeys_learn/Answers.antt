use Rattle.std.proofs.Common.{ap, ◌∙◌}
use Rattle.refutation_confirmer.specs.State.{State}
use Rattle.refutation_confirmer.proofs.ObeyingLemmas.{tells_learn}
use Rattle.refutation_confirmer.proofs.reader.Reader.obeys_learn.Goals as goal

pub returns-clause-exact : goal.returns-clause-exact
returns-clause-exact c = λ names q. rw (← c.self.view_is)
    (tells_learn c.args.kb.now names q _ c.is_right_clause.result c.in-Some.clauses c.in-Some-learnable.learnable c.args.number c.args.clause.now c.in-Some.is
    c.in-Some-learnable.is (ap (λ (s : State). s.standing.place) c.self.view_is ∙ c.requires.comes.order)
    (rw c.as_slice.ensures.lent at c.is_right_clause.ensures.exact))
