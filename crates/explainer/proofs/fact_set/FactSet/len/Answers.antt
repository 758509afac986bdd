use Rattle.explainer.proofs.SetLemmas.{distinct_once}
use Rattle.explainer.proofs.fact_set.FactSet.len.Goals as goal

pub returns-clause-once : goal.returns-clause-once
returns-clause-once c = rw (← c.self.view_is) (distinct_once c.self.inside.facts.keys c.len.ensures.unique)
