use Rattle.refutation_confirmer.proofs.LoopLemmas.{reading_tells}
use Rattle.refutation_confirmer.proofs.laws.reading_tells.Goals as goal

pub returns : goal.returns
returns c kb names q report = reading_tells kb names q report
