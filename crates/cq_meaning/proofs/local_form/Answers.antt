use Rattle.cq_meaning.proofs.Decided.{conflicts_told}
use Rattle.cq_meaning.proofs.Chosen.{chosen_is_local}
use Rattle.cq_meaning.proofs.local_form.Goals as goal

pub returns : goal.returns
returns c kb mode R = let t = conflicts_told kb in chosen_is_local kb mode t.0 t.1 t.2 R
