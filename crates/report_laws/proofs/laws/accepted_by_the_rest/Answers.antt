use Rattle.report_rules.specs.Inputs.{report_on}
use Rattle.report_laws.proofs.BreakingLemmas.{accepted_from}
use Rattle.report_laws.proofs.laws.accepted_by_the_rest.Goals as goal

pub returns : goal.returns
returns c kb names q before right rest accepted = accepted_from (report_on kb names q) before right rest accepted
