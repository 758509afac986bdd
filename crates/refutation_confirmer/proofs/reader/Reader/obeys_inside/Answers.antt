use Rattle.std.proofs.Common.{ap, ◌∙◌}
use Rattle.refutation_confirmer.specs.State.{State}
use Rattle.refutation_confirmer.proofs.ObeyingLemmas.{tells_try, tells_answer}
use Rattle.refutation_confirmer.proofs.reader.Reader.obeys_inside.Goals as goal

pub returns-in-Try-clause-exact : goal.returns-in-Try-clause-exact
returns-in-Try-clause-exact c =
    λ q. let order = rw c.in-Try.is at c.requires.comes.order in
    rw (c.in-Try.is, ← c.self.view_is)
    (tells_try c.args.kb.now c.args.vocab.now.inds q _ c.is_right_try.result c.in-Try.question c.in-Try.assume
    (ap (λ (s : State). s.standing.place) c.self.view_is ∙ order) (rw c.as_slice.ensures.lent at c.is_right_try.ensures.exact))

pub returns-in-Answer-clause-exact : goal.returns-in-Answer-clause-exact
returns-in-Answer-clause-exact c = λ q. rw (c.in-Answer.is, ← c.self-in-Answer.view_is)
    (tells_answer c.args.kb.now c.args.vocab.now.inds q _ c.is_right_answer.result c.in-Answer.brave c.in-Answer.ar c.in-Answer.iar
    c.in-Answer.cores c.in-Answer.names c.in-Answer.tuple
    (rw (c.as_slice-in-Answer.ensures.lent, c.as_slice-in-Answer-2.ensures.lent, c.as_slice-in-Answer-3.ensures.lent) at c.is_right_answer.ensures.exact))
