use Rattle.std.proofs.Common.{◌∙◌, sym}
use Rattle.explainer.proofs.SetLemmas.{found_there, there_found}
use Rattle.answer_evidence.proofs.fact_set.FactSet.has.Goals as goal

pub returns : goal.returns
returns c = record {
  exact = rw (← c.self.view_is) (
    (λ t. found_there c.self.inside.facts.keys c.args.fact (sym c.contains.ensures ∙ t)),
    (λ m. c.contains.ensures ∙ there_found c.self.inside.facts.keys c.args.fact m),
  );
}
