use Rattle.explainer.proofs.SetLemmas.{gains_insert}
use Rattle.explainer.proofs.fact_set.FactSet.put.Goals as goal

pub returns : goal.returns
returns c = record { exact = rw (← c.self.view_is, c.in_ok-_new.ensures.keys) (gains_insert c.self.inside.facts.keys c.args.fact) }
