use Rattle.report_laws.proofs.AtStandingLemmas.{rules_kept}
use Rattle.report_laws.proofs.laws.rules_at_standing.Goals as goal

pub returns : goal.returns
returns c = rules_kept
