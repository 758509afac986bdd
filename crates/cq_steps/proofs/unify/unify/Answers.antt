use Rattle.cq_steps.proofs.unify.unify.Goals as goal

pub returns-in-Link-Link : goal.returns-in-Link-Link
returns-in-Link-Link c = rw (c.in-Link-Link.is-0, c.in-Link-Link.is-1, ← c.if-p-q.true) c.unify_links.ensures
