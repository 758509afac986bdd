use Rattle.refutation_confirmer.proofs.ObeyingLemmas.{tells_cq, tells_forget}
use Rattle.refutation_confirmer.proofs.reader.Reader.obeys.Goals as goal

pub returns-in-Head-clause-exact : goal.returns-in-Head-clause-exact
returns-in-Head-clause-exact c = rw c.in-Head.is (λ before f. c.is_right_head.ensures.exact c.args.vocab.now.inds c.args.query.now)

pub returns-in-Cq-clause-exact : goal.returns-in-Cq-clause-exact
returns-in-Cq-clause-exact c = rw (c.in-Cq.is, ← c.self.view_is)
    (tells_cq c.args.kb.now c.args.vocab.now.inds c.args.query.now _ c.joins.result c.in-Cq.origin c.in-Cq.member c.in-Cq.step
    (c.joins.ensures.exact c.args.vocab.now.inds))

pub returns-in-Forget-clause-exact : goal.returns-in-Forget-clause-exact
returns-in-Forget-clause-exact c = rw (c.in-Forget.is, ← c.self.view_is)
    (tells_forget c.args.kb.now c.args.vocab.now.inds c.args.query.now _ c.is_right_forget.result c.in-Forget.clauses
    (rw c.as_slice.ensures.lent at c.is_right_forget.ensures.exact))
