use Rattle.report_laws.proofs.JudgingLemmas.{judged}
use Rattle.report_laws.proofs.laws.lines_are_judged.Goals as goal

pub returns : goal.returns
returns c = judged
