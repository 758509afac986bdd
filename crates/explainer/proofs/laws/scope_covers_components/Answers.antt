use Rattle.explainer.proofs.CoreLemmas.{scope_covers}
use Rattle.explainer.proofs.laws.scope_covers_components.Goals as goal

pub returns : goal.returns
returns c = scope_covers
