use Rattle.explainer.proofs.SetLemmas.{gains_insert}
use Rattle.answer_evidence.proofs.SetLemmas.{Gains-from}
use Rattle.answer_evidence.proofs.fact_set.FactSet.put.Goals as goal

pub returns : goal.returns
returns c = record { exact = rw (← c.self.view_is, c.in_ok-_new.ensures.keys) (Gains-from _ _ _ (gains_insert c.self.inside.facts.keys c.args.fact)) }
