use Rattle.report_laws.proofs.PriorityLemmas.{base_says_chosen}
use Rattle.report_laws.proofs.laws.base_clauses_say_chosen.Goals as goal

pub returns : goal.returns
returns c kb mode v = base_says_chosen kb mode v
