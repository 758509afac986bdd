use Rattle.cq_meaning.proofs.Decided.{conflicts_told}
use Rattle.cq_meaning.proofs.Chosen.{chosen_exists}
use Rattle.cq_meaning.proofs.chosen_exists.Goals as goal

pub returns : goal.returns
returns c kb mode acyclic = let t = conflicts_told kb in chosen_exists kb mode t.0 t.1 t.2 acyclic
