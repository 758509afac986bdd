use Rattle.cq_terms.proofs.NamesLemmas.{IsDistinct-texts}
use Rattle.cq_terms.proofs.names.Names.len.Goals as goal

pub returns-clause-distinct : goal.returns-clause-distinct
returns-clause-distinct c = rw (← c.self.view_is) (IsDistinct-texts c.self.inside.texts.keys c.len.ensures.unique)
