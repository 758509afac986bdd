use Rattle.refutation_confirmer.proofs.SayingLemmas.{says}
use Rattle.refutation_confirmer.proofs.laws.right_answers_say_all.Goals as goal

pub returns : goal.returns
returns c kb names q report answer w = says kb names q report answer w
